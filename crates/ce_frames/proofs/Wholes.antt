-- Classes with their behaviours, and the states that have them.
use Rattle.std.proofs.Common.{◌≡◌, ℕ, zero, suc, ◌+◌, List, [], ◌∷◌, ◌++◌, map, length, Some, None, refl, sym, ap, ◌∙◌, arith}
use Rattle.std.specs.Prelude.{not, cond, nat_lt, bytes_eq, slice_get, slice_set}
use Rattle.std.specs.List.{prefix_len}
use Rattle.rule_tokens.specs.declared.callback.CallName.{CallName}
use Rattle.rule_lines.specs.Acts.{Act}
use Rattle.reaction_queue.specs.Queues.{or_empty}
use Rattle.ce_algorithms.specs.State.{State, Class, Memory, class_named, class_of, or_new_class}
use Rattle.ce_algorithms.specs.Parts.{with_body, with_has, change_facts}
use Rattle.ce_frames.specs.Places.{Behaviour}
use Rattle.ce_frames.specs.Whole.{joined_class, joined, whole}

-- without behaviours the classes stay
joined_none : (cs : List Class) → joined cs [] ≡ cs
joined_none [] = refl
joined_none (c ∷ cs) = refl

pub length_joined : (cs : List Class) (bs : List Behaviour) → length (joined cs bs) ≡ length cs
length_joined [] bs = refl
length_joined (c ∷ cs) [] = refl
length_joined (c ∷ cs) (b ∷ bs) = ap suc (length_joined cs bs)

-- names

prefix_joined : (cs : List Class) (bs : List Behaviour) (name : List ℕ)
    → prefix_len (λ (k : Class). not (bytes_eq k.name name)) (joined cs bs) ≡ prefix_len (λ (k : Class). not (bytes_eq k.name name)) cs
prefix_joined [] bs name = refl
prefix_joined (c ∷ cs) [] name = refl
prefix_joined (c ∷ cs) (b ∷ bs) name = ap (λ n. cond (not (bytes_eq c.name name)) (1 + n) 0) (prefix_joined cs bs name)

-- a class is found by the same name
pub named_joined : (cs : List Class) (bs : List Behaviour) (name : List ℕ) → class_named (joined cs bs) name ≡ class_named cs name
named_joined cs bs name =
    ap (λ n. cond (nat_lt n (length (joined cs bs))) (Some n) None) (prefix_joined cs bs name)
    ∙ ap (λ l. cond (nat_lt (prefix_len (λ (k : Class). not (bytes_eq k.name name)) cs) l)
    (Some (prefix_len (λ (k : Class). not (bytes_eq k.name name)) cs)) None) (length_joined cs bs)

-- one class

-- a class with its behaviour
pub found_joined : (cs : List Class) (bs : List Behaviour) (k : ℕ) (b : Behaviour) → length cs ≡ length bs → slice_get bs k ≡ Some b
    → slice_get (joined cs bs) k ≡ Some (joined_class (or_new_class (slice_get cs k)) b)
found_joined cs [] k b each at = absurd (let e : None ≡ Some b = at in cc)
found_joined [] (x ∷ bs) k b each at = absurd (omega arith)
found_joined (c ∷ cs) (x ∷ bs) zero b each at = let same : x ≡ b = cc in ap (λ y. Some (joined_class c y)) same
found_joined (c ∷ cs) (x ∷ bs) (suc k) b each at = found_joined cs bs k b (omega arith) at

-- what is read off a class, and is nothing that it does or remembers
read_joined : {X : Type 0} (f : Class → X) → ((c : Class) (b : Behaviour) → f (joined_class c b) ≡ f c) → (cs : List Class) (bs : List Behaviour) (k : ℕ)
    → f (or_new_class (slice_get (joined cs bs) k)) ≡ f (or_new_class (slice_get cs k))
read_joined f h [] bs k = refl
read_joined f h (c ∷ cs) [] k = refl
read_joined f h (c ∷ cs) (b ∷ bs) zero = h c b
read_joined f h (c ∷ cs) (b ∷ bs) (suc k) = read_joined f h cs bs k

pub class_name_joined : (s : State) (bs : List Behaviour) (k : ℕ) → (class_of (whole bs s) k).name ≡ (class_of s k).name
class_name_joined s bs k = read_joined (λ c. c.name) (λ c b. refl) s.classes bs k

pub class_facts_joined : (s : State) (bs : List Behaviour) (k : ℕ) → (class_of (whole bs s) k).facts ≡ (class_of s k).facts
class_facts_joined s bs k = read_joined (λ c. c.facts) (λ c b. refl) s.classes bs k

pub class_frozen_joined : (s : State) (bs : List Behaviour) (k : ℕ) → (class_of (whole bs s) k).frozen ≡ (class_of s k).frozen
class_frozen_joined s bs k = read_joined (λ c. c.frozen) (λ c b. refl) s.classes bs k

bodies_joined : (cs : List Class) (bs : List Behaviour) (k : ℕ) → length cs ≡ length bs
    → (or_new_class (slice_get (joined cs bs) k)).bodies ≡ or_empty (slice_get (map (λ (b : Behaviour). b.bodies) bs) k)
bodies_joined [] [] k each = refl
bodies_joined [] (b ∷ bs) k each = absurd (omega arith)
bodies_joined (c ∷ cs) [] k each = absurd (omega arith)
bodies_joined (c ∷ cs) (b ∷ bs) zero each = refl
bodies_joined (c ∷ cs) (b ∷ bs) (suc k) each = bodies_joined cs bs k (omega arith)

-- what a class does is what its behaviour says
pub class_bodies_joined : (s : State) (bs : List Behaviour) (k : ℕ) → length s.classes ≡ length bs
    → (class_of (whole bs s) k).bodies ≡ or_empty (slice_get (map (λ (b : Behaviour). b.bodies) bs) k)
class_bodies_joined s bs k each = bodies_joined s.classes bs k each

-- changes of a class

-- of nothing that it does or remembers
pub set_joined : (cs : List Class) (bs : List Behaviour) (k : ℕ) (f : Class → Class)
    → ((c : Class) (b : Behaviour) → f (joined_class c b) ≡ joined_class (f c) b)
    → slice_set (joined cs bs) k (f (or_new_class (slice_get (joined cs bs) k)))
    ≡ joined (slice_set cs k (f (or_new_class (slice_get cs k)))) bs
set_joined [] bs k f h = refl
set_joined (c ∷ cs) [] k f h = sym (joined_none _)
set_joined (c ∷ cs) (b ∷ bs) zero f h = ap (λ x. x ∷ joined cs bs) (h c b)
set_joined (c ∷ cs) (b ∷ bs) (suc k) f h = ap (λ l. joined_class c b ∷ l) (set_joined cs bs k f h)

-- of what it remembers
pub remembering_joined : (cs : List Class) (bs : List Behaviour) (k : ℕ) (b : Behaviour) (m : Memory) → slice_get bs k ≡ Some b
    → slice_set (joined cs bs) k (record (or_new_class (slice_get (joined cs bs) k)) { memory = m })
    ≡ joined cs (slice_set bs k (record b { memory = m }))
remembering_joined [] bs k b m at = refl
remembering_joined (c ∷ cs) [] k b m at = absurd (let e : None ≡ Some b = at in cc)
remembering_joined (c ∷ cs) (x ∷ bs) zero b m at =
    let same : x ≡ b = cc in ap (λ (y : Behaviour). record c { bodies = y.bodies; memory = m } ∷ joined cs bs) same
remembering_joined (c ∷ cs) (x ∷ bs) (suc k) b m at = ap (λ l. joined_class c x ∷ l) (remembering_joined cs bs k b m at)

-- one action more that it does
pub doing_joined : (cs : List Class) (bs : List Behaviour) (k : ℕ) (b : Behaviour) (call : CallName) (action : Act) → slice_get bs k ≡ Some b
    → slice_set (joined cs bs) k (with_body call action (or_new_class (slice_get (joined cs bs) k)))
    ≡ joined (slice_set cs k (change_facts (with_has call) (or_new_class (slice_get cs k))))
    (slice_set bs k (record b { bodies = b.bodies ++ (call, action) ∷ [] }))
doing_joined [] bs k b call action at = refl
doing_joined (c ∷ cs) [] k b call action at = absurd (let e : None ≡ Some b = at in cc)
doing_joined (c ∷ cs) (x ∷ bs) zero b call action at =
    let same : x ≡ b = cc in
    ap (λ (y : Behaviour). joined_class (change_facts (with_has call) c) (record y { bodies = y.bodies ++ (call, action) ∷ [] }) ∷ joined cs bs) same
doing_joined (c ∷ cs) (x ∷ bs) (suc k) b call action at = ap (λ l. joined_class c x ∷ l) (doing_joined cs bs k b call action at)

-- the bodies stay as a memory changes
pub bodies_stay : (bs : List Behaviour) (k : ℕ) (b : Behaviour) (m : Memory) → slice_get bs k ≡ Some b
    → map (λ (c : Behaviour). c.bodies) (slice_set bs k (record b { memory = m })) ≡ map (λ (c : Behaviour). c.bodies) bs
bodies_stay [] k b m at = refl
bodies_stay (x ∷ bs) zero b m at =
    let same : x ≡ b = cc in ap (λ (y : Behaviour). y.bodies ∷ map (λ (c : Behaviour). c.bodies) bs) (sym same)
bodies_stay (x ∷ bs) (suc k) b m at = ap (λ l. x.bodies ∷ l) (bodies_stay bs k b m at)

-- one class more, which has a behaviour of its own
pub push_joined : (cs : List Class) (bs : List Behaviour) (c : Class) (b : Behaviour) → length cs ≡ length bs
    → joined (cs ++ c ∷ []) (bs ++ b ∷ []) ≡ joined cs bs ++ joined_class c b ∷ []
push_joined [] [] c b each = refl
push_joined [] (x ∷ bs) c b each = absurd (omega arith)
push_joined (k ∷ cs) [] c b each = absurd (omega arith)
push_joined (k ∷ cs) (x ∷ bs) c b each = ap (λ l. joined_class k x ∷ l) (push_joined cs bs c b (omega arith))
