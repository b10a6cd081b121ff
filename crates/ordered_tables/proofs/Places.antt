-- What has names, at places that rise: what is found once it was put behind the others, was replaced or was taken away.
use Rattle.std.proofs.Common.{◌≡◌, ℕ, ◌+◌, ◌≤◌, true, cond, ◌==◌, Option, Some, None, String, List, [], ◌∷◌, ◌++◌, refl, ap, sym, ◌∙◌, arith}
use Rattle.std.specs.Prelude.{bytes_eq, is_none}
use Rattle.std.specs.Map.{remove_entry, values_of}
use Rattle.std.specs.Ordering.{nat_cmp, is_eq}
use Rattle.std.specs.BTreeMap.{BTreeMap, get_by_text, insert_entry, is_at}
use Rattle.std.proofs.lemmas.Bool.Decides.{nat_tests}
use Rattle.ce_base.proofs.SameTexts.{same_text, text_same, bytes_sym}
use Rattle.ordered_tables.specs.Found.{place_of, is_once, is_rising, Finds}

pub is_nothing : (o : Option ℕ) → is_none o ≡ true → o ≡ None
is_nothing None e = refl
is_nothing (Some p) e = absurd cc

pub number_test : (n m : ℕ) → is_eq (nat_cmp n m) ≡ (n == m)
number_test n m = grind (arith, nat_tests)

module _ {X : Type 0} (name : X → List ℕ) where
  -- the entries but the first with this name
  abbrev pub without : List ℕ → List (ℕ × X) → List (ℕ × X)
  without s [] = []
  without s (e ∷ es) = cond (bytes_eq (name e.1) s) es (e ∷ without s es)

  -- the entries, with x where the first with its name was
  abbrev pub with_item : X → List (ℕ × X) → List (ℕ × X)
  with_item x [] = []
  with_item x (e ∷ es) = cond (bytes_eq (name e.1) (name x)) ((e.0, x) ∷ es) (e ∷ with_item x es)

module _ {X : Type 0} (name : X → List ℕ) where
  -- ---- places of names

  none_found : (es : List (ℕ × X)) (s : List ℕ) → place_of name es s ≡ None → without name s es ≡ es
  none_found [] s e = refl
  none_found (x ∷ es) s e = grind (arith, none_found es s)

  place-push : (es : List (ℕ × X)) (p : ℕ) (x : X) (q : List ℕ) → place_of name es (name x) ≡ None
      → place_of name (es ++ (p, x) ∷ []) q ≡ cond (bytes_eq (name x) q) (Some p) (place_of name es q)
  place-push [] p x q e = refl
  place-push (y ∷ es) p x q e = grind (arith, same_text (name y.1) q, same_text (name x) q, text_same (name y.1) (name x), place-push es p x q)

  pub place-without : (es : List (ℕ × X)) (s q : List ℕ) → is_once name es ≡ true
      → place_of name (without name s es) q ≡ cond (bytes_eq s q) None (place_of name es q)
  place-without [] s q once = grind arith
  place-without (x ∷ es) s q once =
      grind (
        arith,
        is_nothing (place_of name es (name x.1)),
        same_text (name x.1) s,
        same_text s q,
        same_text (name x.1) q,
        text_same (name x.1) q,
        text_same s q,
        text_same (name x.1) s,
        place-without es s q,
      )

  place-with : (es : List (ℕ × X)) (x : X) (q : List ℕ) → place_of name (with_item name x es) q ≡ place_of name es q
  place-with [] x q = refl
  place-with (y ∷ es) x q = grind (arith, same_text (name y.1) (name x), place-with es x q)

  -- ---- names that stand once

  once-push : (es : List (ℕ × X)) (p : ℕ) (x : X) → is_once name es ≡ true → place_of name es (name x) ≡ None → is_once name (es ++ (p, x) ∷ []) ≡ true
  once-push [] p x once e = refl
  once-push (y ∷ es) p x once e = grind (arith, place-push es p x (name y.1), bytes_sym (name y.1) (name x), once-push es p x)

  once-without : (es : List (ℕ × X)) (s : List ℕ) → is_once name es ≡ true → is_once name (without name s es) ≡ true
  once-without [] s once = refl
  once-without (x ∷ es) s once = grind (arith, is_nothing (place_of name es (name x.1)), place-without es s (name x.1), once-without es s)

  once-with : (es : List (ℕ × X)) (x : X) → is_once name (with_item name x es) ≡ is_once name es
  once-with [] x = refl
  once-with (y ∷ es) x = grind (arith, same_text (name y.1) (name x), place-with es x (name y.1), once-with es x)

module _ {X : Type 0} where
  -- ---- places that rise

  rising_within : (from : ℕ) (es : List (ℕ × X)) (next : ℕ) → is_rising from es next ≡ true → from ≤ next
  rising_within from [] next up = grind (arith, nat_tests)
  rising_within from (x ∷ es) next up = grind (arith, nat_tests, rising_within (x.0 + 1) es next)

  rising_lower : (a b : ℕ) (es : List (ℕ × X)) (next : ℕ) → a ≤ b → is_rising b es next ≡ true → is_rising a es next ≡ true
  rising_lower a b [] next le up = grind (arith, nat_tests)
  rising_lower a b (x ∷ es) next le up = grind (arith, nat_tests)

  rising-push : (from : ℕ) (es : List (ℕ × X)) (next : ℕ) (x : X) → is_rising from es next ≡ true → is_rising from (es ++ (next, x) ∷ []) (next + 1) ≡ true
  rising-push from [] next x up = grind (arith, nat_tests)
  rising-push from (y ∷ es) next x up = grind (arith, nat_tests, rising-push (y.0 + 1) es next x)

  pub values-push : (es : List (ℕ × X)) (p : ℕ) (x : X) → values_of (es ++ (p, x) ∷ []) ≡ values_of es ++ x ∷ []
  values-push [] p x = refl
  values-push (y ∷ es) p x = ap (λ xs. y.1 ∷ xs) (values-push es p x)

  -- what is put at the next place stands last, and goes again

  put_last : (from : ℕ) (es : List (ℕ × X)) (next : ℕ) (x : X) → is_rising from es next ≡ true → insert_entry nat_cmp es next x ≡ es ++ (next, x) ∷ []
  put_last from [] next x up = refl
  put_last from (y ∷ es) next x up = grind (arith, nat_tests, rising_within (y.0 + 1) es next, put_last (y.0 + 1) es next x)

  put_back : (from : ℕ) (es : List (ℕ × X)) (next : ℕ) (x : X) → is_rising from es next ≡ true → remove_entry (is_at (nat_cmp next)) (es ++ (next, x) ∷ []) ≡ es
  put_back from [] next x up = grind (arith, nat_tests)
  put_back from (y ∷ es) next x up = grind (arith, nat_tests, number_test next y.0, rising_within (y.0 + 1) es next, put_back (y.0 + 1) es next x)

module _ {X : Type 0} (name : X → List ℕ) where
  rising-without : (from : ℕ) (es : List (ℕ × X)) (next : ℕ) (s : List ℕ) → is_rising from es next ≡ true → is_rising from (without name s es) next ≡ true
  rising-without from [] next s up = up
  rising-without from (x ∷ es) next s up = grind (arith, nat_tests, rising_lower from (x.0 + 1) es next, rising-without (x.0 + 1) es next s)

  rising-with : (from : ℕ) (es : List (ℕ × X)) (next : ℕ) (x : X) → is_rising from (with_item name x es) next ≡ is_rising from es next
  rising-with from [] next x = refl
  rising-with from (y ∷ es) next x = grind (arith, rising-with (y.0 + 1) es next x)

  -- no place is below the first
  pub place_from : (from : ℕ) (es : List (ℕ × X)) (next : ℕ) (s : List ℕ) (p : ℕ) → is_rising from es next ≡ true → place_of name es s ≡ Some p → from ≤ p
  place_from from [] next s p up at = absurd cc
  place_from from (x ∷ es) next s p up at = grind (arith, nat_tests, place_from (x.0 + 1) es next s p)

  -- ---- what stands at the place of a name

  taken : (from : ℕ) (es : List (ℕ × X)) (next p : ℕ) (s : List ℕ) → is_rising from es next ≡ true → place_of name es s ≡ Some p
      → remove_entry (is_at (nat_cmp p)) es ≡ without name s es
  taken from [] next p s up at = refl
  taken from (x ∷ es) next p s up at = grind (arith, nat_tests, number_test p x.0, place_from (x.0 + 1) es next s p, taken (x.0 + 1) es next p s)

  replaced : (from : ℕ) (es : List (ℕ × X)) (next p : ℕ) (x : X) → is_rising from es next ≡ true → place_of name es (name x) ≡ Some p
      → insert_entry nat_cmp es p x ≡ with_item name x es
  replaced from [] next p x up at = absurd cc
  replaced from (y ∷ es) next p x up at = grind (arith, nat_tests, place_from (y.0 + 1) es next (name x) p, replaced (y.0 + 1) es next p x)

-- ---- the same in the words of the functions

module _ {X Y : Type 0} (name : X → List ℕ) where
  -- where the entries of both maps stay the same, so does what is found
  pub finds-kept : (items same : BTreeMap ℕ X) (places kept : BTreeMap (String Y) ℕ) (next : ℕ) → Finds name items places next → same.entries ≡ items.entries
      → kept.entries ≡ places.entries → Finds name same kept next
  finds-kept items same places kept next f e k = record {
    found = λ q. rw k (f.found q) ∙ ap (λ es. place_of name es q) (sym e);
    once = rw e f.once;
    rising = rw e f.rising;
  }

  -- one more was put behind the others
  pub pushed : (items more : BTreeMap ℕ X) (places : BTreeMap (String Y) ℕ) (next : ℕ) (x : X) → Finds name items places next
      → more.entries ≡ insert_entry nat_cmp items.entries next x → more.entries ≡ items.entries ++ (next, x) ∷ []
  pushed items more places next x f put = put ∙ put_last 0 items.entries next x f.rising

  pub finds-push : (items more : BTreeMap ℕ X) (places wider : BTreeMap (String Y) ℕ) (next : ℕ) (x : X) → Finds name items places next
      → place_of name items.entries (name x) ≡ None → more.entries ≡ insert_entry nat_cmp items.entries next x
      → ((q : List ℕ) → get_by_text wider q ≡ cond (bytes_eq (name x) q) (Some next) (get_by_text places q)) → Finds name more wider (next + 1)
  finds-push items more places wider next x f new put sets =
      let e = pushed items more places next x f put in
      record {
        found = λ q. sets q ∙ ap (cond (bytes_eq (name x) q) (Some next)) (f.found q) ∙ sym (place-push name items.entries next x q new)
            ∙ ap (λ es. place_of name es q) (sym e);
        once = rw e (once-push name items.entries next x f.once new);
        rising = rw e (rising-push 0 items.entries next x f.rising);
      }

  -- what was put behind the others goes again
  pub back : (items more less : BTreeMap ℕ X) (places : BTreeMap (String Y) ℕ) (next : ℕ) (x : X) → Finds name items places next
      → more.entries ≡ insert_entry nat_cmp items.entries next x → less.entries ≡ remove_entry (is_at (nat_cmp next)) more.entries
      → less.entries ≡ items.entries
  back items more less places next x f put gone =
      gone ∙ ap (remove_entry (is_at (nat_cmp next))) (pushed items more places next x f put) ∙ put_back 0 items.entries next x f.rising

  -- what stood at the place of its name was replaced
  pub set_there : (items new : BTreeMap ℕ X) (places : BTreeMap (String Y) ℕ) (next p : ℕ) (x : X) → Finds name items places next
      → Some p ≡ get_by_text places (name x) → new.entries ≡ insert_entry nat_cmp items.entries p x → new.entries ≡ with_item name x items.entries
  set_there items new places next p x f at put = put ∙ replaced name 0 items.entries next p x f.rising (sym (f.found (name x)) ∙ sym at)

  pub finds-with : (items new : BTreeMap ℕ X) (places : BTreeMap (String Y) ℕ) (next : ℕ) (x : X) → Finds name items places next
      → new.entries ≡ with_item name x items.entries → Finds name new places next
  finds-with items new places next x f e = record {
    found = λ q. f.found q ∙ sym (place-with name items.entries x q) ∙ ap (λ es. place_of name es q) (sym e);
    once = rw e (once-with name items.entries x ∙ f.once);
    rising = rw e (rising-with name 0 items.entries next x ∙ f.rising);
  }

  -- what stood at the place of a name goes, or nothing where the name has none
  pub taken_away : (items less : BTreeMap ℕ X) (places : BTreeMap (String Y) ℕ) (next p : ℕ) (s : List ℕ) → Finds name items places next
      → Some p ≡ get_by_text places s → less.entries ≡ remove_entry (is_at (nat_cmp p)) items.entries → less.entries ≡ without name s items.entries
  taken_away items less places next p s f at gone = gone ∙ taken name 0 items.entries next p s f.rising (sym (f.found s) ∙ sym at)

  pub not_there : (items : BTreeMap ℕ X) (places : BTreeMap (String Y) ℕ) (next : ℕ) (s : List ℕ) → Finds name items places next → None ≡ get_by_text places s
      → items.entries ≡ without name s items.entries
  not_there items places next s f at = sym (none_found name items.entries s (sym (f.found s) ∙ sym at))

  pub finds-without : (items less : BTreeMap ℕ X) (places rest : BTreeMap (String Y) ℕ) (next : ℕ) (s : List ℕ) → Finds name items places next
      → less.entries ≡ without name s items.entries → ((q : List ℕ) → get_by_text rest q ≡ cond (bytes_eq s q) None (get_by_text places q))
      → Finds name less rest next
  finds-without items less places rest next s f e sets = record {
    found = λ q. sets q ∙ ap (cond (bytes_eq s q) None) (f.found q) ∙ sym (place-without name items.entries s q f.once) ∙ ap (λ es. place_of name es q) (sym e);
    once = rw e (once-without name items.entries s f.once);
    rising = rw e (rising-without name 0 items.entries next s f.rising);
  }
