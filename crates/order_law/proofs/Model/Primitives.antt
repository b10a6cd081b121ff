-- The primitives of the page keep the law: what they enqueue, and what they change of the forest.
use Rattle.std.proofs.Common.{◌≡◌, ℕ, ◌<◌, Bool, true, false, List, [], length, Option, Some, None, refl, ap, ◌∙◌, arith}
use Rattle.std.specs.Prelude.{◌&&◌, ◌==◌, not, is_some, filter, map, ◌++◌, if◌then◌else◌}
use Rattle.reaction_queue.specs.declared.reaction.Reaction.TheVariants.{Upgrade, Connected, Disconnected, Adopted, Attribute, FormAssociated, FormDisabled}
use Rattle.node_trees.specs.Facts.{is_element, with_value, without_value}
use Rattle.node_trees.specs.Trees.{Trees, without, cut, graft, with_document, with_attribute, without_attribute}
use Rattle.node_trees.specs.Nodes.{times}
use Rattle.node_trees.specs.Orders.{order_of}
use Rattle.node_trees.specs.Paths.{is_among}
use Rattle.node_trees.specs.Spots.{kind_at, parent_at, document_at, attribute_at}
use Rattle.node_trees.specs.Insertion.{may_insert}
use Rattle.order_law.proofs.Model.Weights.{without_cut}
use Rattle.ce_base.specs.declared.fault.Fault.{Fault}
use Rattle.ce_events.specs.declared.event.Event.{Event}
use Rattle.ce_algorithms.specs.Steps.{Outcome, Goes, Throws, Spent, then_do, ◌>>=◌, ◌>>◌, where_is, for_each, throw_any}
use Rattle.ce_algorithms.specs.Page.{Page, Work, with_forest, is_custom}
use Rattle.ce_algorithms.specs.Page as page
use Rattle.ce_algorithms.specs.State.{event_of}
use Rattle.ce_algorithms.specs.Enqueue.{enqueue_found, enqueue_upgrade, try_upgrade, lookup_for}
use Rattle.form_controls.specs.declared.change.Change.{Change}
use Rattle.ce_algorithms.specs.Forms.{is_custom_form_associated}
use Rattle.ce_algorithms.specs.FormChanges.{form_changes, tell_owner, tell_disabled, tell_form_change, tell_at_turn, tell_others}
use Rattle.ce_algorithms.specs.Mutation.{is_connected, is_connected_parent, removed, remove, move_to, adopt, connected_now, inserted, put_in, reference_child}
use Rattle.ce_algorithms.specs.Mutation.{insert, pre_insert}
use Rattle.ce_algorithms.specs.Attributes.{handle_attribute_change, set_attribute, remove_there, remove_attribute}
use Rattle.order_law.proofs.Model.Forests.{alike_cut, alike_graft, alike_facts, outside_allowed, outside_facts}
use Rattle.order_law.proofs.Model.Sound.{sound_apart, element_row}
use Rattle.order_law.proofs.Model.Invariant.{Hold, Known}
use Rattle.order_law.proofs.Model.Hands.{IsHeld, held_row}
use Rattle.order_law.proofs.Model.Steps.{HoldsAt, Any, AfterAt, KeepsAt, at_bind, at_seq, at_done, at_each, at_when, at_where, at_read, at_where_forest}
use Rattle.order_law.proofs.Model.Steps.{forest_holds, at_forest, callback_at, enqueue_at}
use Rattle.order_law.proofs.Model.Giving.{none, AfterGivesAt, GivesAt, given_at}
use Rattle.node_trees.proofs.Weights.{IsApart}

-- upgrades are enqueued at elements

known_element : (q : Trees → Type 0) (h : List Hold) (l : List Event) (n : ℕ) (w : Work) → is_element (kind_at w.page.forest n) ≡ true →
    HoldsAt q h l w → Known w.page.elements n
known_element q h l n w is k = let row = element_row w.page.forest (length w.page.elements) w.page.stacks n is k.sound in record { low = row.0; high = row.1 }

pub upgrade_at : {q : Trees → Type 0} {h : List Hold} {l : List Event} (d n : ℕ) → ((f : Trees) → q f → is_element (kind_at f n) ≡ true) →
    KeepsAt q h l (enqueue_upgrade d n)
upgrade_at {q} {h} {l} d n is = record { at = λ w k. enqueue_at q h l n (Upgrade d) w (known_element q h l n w (is w.page.forest k.known) k) refl k }

found_at : {q : Trees → Type 0} {h : List Hold} {l : List Event} (n : ℕ) (d : Option ℕ) → ((f : Trees) → q f → is_element (kind_at f n) ≡ true) →
    KeepsAt q h l (enqueue_found n d)
found_at n None is = at_done
found_at n (Some d) is = upgrade_at d n is

pub try_at : {q : Trees → Type 0} {h : List Hold} {l : List Event} (n : ℕ) → ((f : Trees) → q f → is_element (kind_at f n) ≡ true) →
    KeepsAt q h l (try_upgrade n)
try_at n is = at_bind (at_read (λ p. lookup_for p n)) (λ d. found_at n d is)

-- an element, where it is one
try_element_at : {q : Trees → Type 0} {h : List Hold} {l : List Event} (n : ℕ) →
    KeepsAt q h l (where_is (λ w. is_element (kind_at w.page.forest n)) (try_upgrade n))
try_element_at n = at_where_forest (λ t. is_element (kind_at t n)) (try_at n (λ f k. k.0))

-- form owners and disabled states

owner_change_at : {q : Trees → Type 0} {h : List Hold} {l : List Event} (n : ℕ) (o : Option (Option ℕ)) → KeepsAt q h l (tell_owner n o)
owner_change_at n None = at_done
owner_change_at n (Some owner) = callback_at n (FormAssociated owner)

disabled_change_at : {q : Trees → Type 0} {h : List Hold} {l : List Event} (n : ℕ) (o : Option Bool) → KeepsAt q h l (tell_disabled n o)
disabled_change_at n None = at_done
disabled_change_at n (Some disabled) = callback_at n (FormDisabled disabled)

form_change_at : {q : Trees → Type 0} {h : List Hold} {l : List Event} (c : Change) → KeepsAt q h l (tell_form_change c)
form_change_at c = at_where (λ w. is_custom_form_associated w.page c.node) (at_seq (owner_change_at c.node c.owner) (disabled_change_at c.node c.disabled))

turn_at : {q : Trees → Type 0} {h : List Hold} {l : List Event} (changes : List Change) (n : ℕ) → KeepsAt q h l (tell_at_turn changes n)
turn_at changes n = at_each (filter (λ (c : Change). c.node == n) changes) form_change_at

others_at : {q : Trees → Type 0} {h : List Hold} {l : List Event} (changes : List Change) (walk : List ℕ) → KeepsAt q h l (tell_others changes walk)
others_at changes walk = at_each (filter (λ (c : Change). not (is_among c.node walk)) changes) form_change_at

-- removal and adoption keep what is known of the forest, where a node's removal and another document keep it

removed_at : {q : Trees → Type 0} {h : List Hold} {l : List Event} (changes : List Change) (was : Bool) (n : ℕ) → KeepsAt q h l (removed changes was n)
removed_at changes was n = at_seq (turn_at changes n) (at_where (λ w. was && is_custom w.page n) (callback_at n Disconnected))

pub remove_at : {q : Trees → Type 0} {h : List Hold} {l : List Event} (node : ℕ) → ((f : Trees) → IsApart f → q f → q (cut f node)) →
    KeepsAt q h l (remove node)
remove_at node cuts = at_bind (at_read (λ p. p))
    (λ old. at_seq (at_forest (λ f. cut f node) (λ f apart known. (alike_cut f node (apart node), cuts f apart known)))
    (at_bind (at_read (form_changes old)) (λ changes. at_bind (at_read (λ p. order_of p.forest node))
    (λ walk. at_seq (at_each walk (removed_at changes (is_connected_parent old (parent_at old.forest node)))) (others_at changes walk)))))

move_at : {q : Trees → Type 0} {h : List Hold} {l : List Event} (old document node : ℕ) →
    ((m : ℕ) (f : Trees) → q f → q (with_document m document f)) → KeepsAt q h l (move_to old document node)
move_at old document node moves = at_bind (at_read (λ p. order_of p.forest node))
    (λ walk. at_seq (at_each walk (λ n. at_forest (with_document n document)
    (λ f apart known. (alike_facts n (λ x. record x { document = document }) (λ x. refl) f, moves n f known))))
    (at_each walk (λ n. at_where (λ w. is_custom w.page n) (callback_at n (Adopted old document)))))

pub adopt_at : {q : Trees → Type 0} {h : List Hold} {l : List Event} (document node : ℕ) → ((f : Trees) → IsApart f → q f → q (cut f node)) →
    ((m : ℕ) (f : Trees) → q f → q (with_document m document f)) → KeepsAt q h l (adopt document node)
adopt_at document node cuts moves = at_bind (at_read (λ p. document_at p.forest node))
    (λ old. at_seq (at_where (λ w. is_some (parent_at w.page.forest node)) (remove_at node cuts))
    (at_when (not (old == document)) (move_at old document node moves)))

-- insertion

connected_at : {q : Trees → Type 0} {h : List Hold} {l : List Event} (n : ℕ) (custom : Bool) → KeepsAt q h l (connected_now n custom)
connected_at n true = callback_at n Connected
connected_at n false = try_element_at n

inserted_at : {q : Trees → Type 0} {h : List Hold} {l : List Event} (changes : List Change) (n : ℕ) → KeepsAt q h l (inserted changes n)
inserted_at changes n = at_seq (turn_at changes n)
    (at_bind (at_read (λ p. is_connected p n))
    (λ now_connected. at_bind (at_read (λ p. is_custom p n)) (λ custom. at_when now_connected (connected_at n custom))))

-- the node is one, and the parent stands outside of its tree
pub record Outside (p n : ℕ) (f : Trees) : Type 0 where
  pub there : 0 < times n f
  pub outside : times p (without n f) ≡ 1

outside_cut : (p n : ℕ) (f : Trees) → IsApart f → Outside p n f → Outside p n (cut f n)
outside_cut p n f apart k =
    let same : times n (cut f n) ≡ times n f = alike_cut f n (apart n) (λ m kind. if m == n then 1 else 0) in
    record { there = let t = k.there in omega (arith, same, t); outside = ap (times p) (without_cut f n apart) ∙ k.outside }

outside_document : (p n document m : ℕ) (f : Trees) → Outside p n f → Outside p n (with_document m document f)
outside_document p n document m f k =
    let same : times n (with_document m document f) ≡ times n f =
    alike_facts m (λ x. record x { document = document }) (λ x. refl) f (λ m kind. if m == n then 1 else 0) in
    record { there = let t = k.there in omega (arith, same, t); outside = outside_facts p n m (λ x. record x { document = document }) f ∙ k.outside }

placed_at : {h : List Hold} {l : List Event} (old : Page) (n : ℕ) →
    KeepsAt Any h l (page.read_page (form_changes old)
    >>= (λ changes. page.read_page (λ p. order_of p.forest n) >>= (λ walk. for_each walk (inserted changes) >> tell_others changes walk)))
placed_at old n = at_bind (at_read (form_changes old))
    (λ changes. at_bind (at_read (λ p. order_of p.forest n)) (λ walk. at_seq (at_each walk (inserted_at changes)) (others_at changes walk)))

put_at : (p n : ℕ) (b : Option ℕ) (h : List Hold) (l : List Event) (w : Work) → HoldsAt (Outside p n) h l w → AfterAt Any h l (put_in p n b w)
put_at p n b h l w k = (placed_at w.page n).at (record w { page = with_forest (λ f. graft f p n b) w.page })
    (forest_holds (Outside p n) Any h l (λ f. graft f p n b) (λ f apart out. (alike_graft f p n b (apart n) out.outside, tt)) w k)

insert_at : (p n : ℕ) (child : Option ℕ) (h : List Hold) (l : List Event) (w : Work) → HoldsAt (Outside p n) h l w → AfterAt Any h l (insert p n child w)
insert_at p n child h l w k = go (adopt document n w) ((adopt_at document n (outside_cut p n) (outside_document p n document)).at w k)
  where
    document : ℕ
    document = document_at w.page.forest p

    go : (o : Outcome Work (Unit {0})) → AfterAt (Outside p n) h l o → AfterAt Any h l (then_do o (λ _. put_in p n child))
    go (Goes a v) o = put_at p n child h l v o
    go (Throws f v) o = o
    go (Spent v) o = record { holds = o.holds; sound = o.sound; known = tt }

-- where the parent and the node are nodes
pub insert_gives : {h : List Hold} {l : List Event} (p n : ℕ) (before : Option ℕ) → IsHeld p h → IsHeld n h → GivesAt none h l (pre_insert p n before)
insert_gives {h} {l} p n before parent node = record { at = λ w k. go w k (may_insert w.page.forest p n before) refl }
  where
    go : (w : Work) → HoldsAt Any h l w → (o : Option Fault) → may_insert w.page.forest p n before ≡ o
        → AfterGivesAt {A = Unit {0}} none h l
        (then_do (throw_any o w) (λ _. page.read_page (λ q. reference_child q.forest n before) >>= (λ child. insert p n child)))
    go w k (Some f) may = k
    go w k None may =
        let s = k.sound in
        let apart = sound_apart w.page.forest (length w.page.elements) w.page.stacks s in
        let at_p = s.once p (held_row p h (l ++ map event_of w.page.notes) w.page parent k.holds) in
        let at_n = s.once n (held_row n h (l ++ map event_of w.page.notes) w.page node k.holds) in
        let there : 0 < times n w.page.forest = omega (arith, at_n) in
        let out : Outside p n w.page.forest = record { there = there; outside = outside_allowed w.page.forest p n before apart at_p there may } in
        given_at h l (insert p n (reference_child w.page.forest n before) w)
        (insert_at p n (reference_child w.page.forest n before) h l w (record { holds = k.holds; sound = s; known = out }))

-- attributes

changed_at : {q : Trees → Type 0} {h : List Hold} {l : List Event} (before : Page) (n : ℕ) (name : List ℕ) (old new : Option (List ℕ)) →
    KeepsAt q h l (handle_attribute_change before n name old new)
changed_at before n name old new =
    at_bind (at_read (form_changes before))
    (λ changes. at_seq (at_where (λ w. is_custom w.page n) (callback_at n (Attribute name old new))) (others_at changes []))

pub set_at : {h : List Hold} {l : List Event} (n : ℕ) (name value : List ℕ) → KeepsAt Any h l (set_attribute n name value)
set_at n name value = at_bind (at_read (λ p. p))
    (λ before. at_seq (at_forest (with_attribute n name value)
    (λ f apart known. (alike_facts n (λ x. record x { attributes = with_value name value x.attributes }) (λ x. refl) f, tt)))
    (changed_at before n name (attribute_at before.forest n name) (Some value)))

there_at : {h : List Hold} {l : List Event} (n : ℕ) (name : List ℕ) (o : Option (List ℕ)) → KeepsAt Any h l (remove_there n name o)
there_at n name None = at_done
there_at n name (Some value) = at_bind (at_read (λ p. p))
    (λ before. at_seq (at_forest (without_attribute n name)
    (λ f apart known. (alike_facts n (λ x. record x { attributes = without_value name x.attributes }) (λ x. refl) f, tt)))
    (changed_at before n name (Some value) None))

pub unset_at : {h : List Hold} {l : List Event} (n : ℕ) (name : List ℕ) → KeepsAt Any h l (remove_attribute n name)
unset_at n name = at_bind (at_read (λ p. attribute_at p.forest n name)) (λ value. there_at n name value)
