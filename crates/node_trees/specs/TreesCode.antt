-- How the logic stores a list of trees.
use Rattle.std.specs.Prelude.{◌≡◌, ℕ, List, Option, refl}
use Rattle.std.specs.Coded.{Coded, code_by, coded×, coded_ℕ, coded_list, coded_option}
use base.Stored.{Gv, gnil, gnum, gcons}
use Rattle.std.proofs.Common.{ap, sym, subst}
use Rattle.node_trees.specs.contracts.kind.NodeKind as kind
use Rattle.node_trees.specs.declared.kind.NodeKind.{NodeKind}
use Rattle.node_trees.specs.Facts.{Facts}
use Rattle.node_trees.specs.Trees.{Trees, none, tree}

abbrev pub FactsParts : Type 0
FactsParts = NodeKind × (List ℕ × (Option (List ℕ) × (List ℕ × (List (List ℕ × List ℕ) × ℕ))))

abbrev pub facts_code : Coded Facts
facts_code =
    code_by FactsParts
    (coded× kind.the_row.coded (coded× (coded_list coded_ℕ) (coded× (coded_option (coded_list coded_ℕ))
    (coded× (coded_list coded_ℕ) (coded× (coded_list (coded× (coded_list coded_ℕ) (coded_list coded_ℕ))) coded_ℕ)))))
    (λ x. (x.kind, (x.local, (x.is_value, (x.chars, (x.attributes, x.document))))))
    (λ p. record { kind = p.0; local = p.1.0; is_value = p.1.1.0; chars = p.1.1.1.0; attributes = p.1.1.1.1.0; document = p.1.1.1.1.1 })
    (λ _. refl)

-- a tree as its parts one after another, and then the other trees
abbrev stored : Trees → Gv
stored none = gnil
stored (tree m x shadow children rest) =
    gcons (gnum m) (gcons (facts_code.code x) (gcons (stored shadow) (gcons (stored children) (stored rest))))

abbrev first_part : Gv → Gv
first_part gnil = gnil
first_part (gnum n) = gnil
first_part (gcons a b) = a

abbrev other_parts : Gv → Gv
other_parts gnil = gnil
other_parts (gnum n) = gnil
other_parts (gcons a b) = b

abbrev as_number : Gv → ℕ
as_number gnil = 0
as_number (gnum n) = n
as_number (gcons a b) = 0

abbrev HasParts : Gv → Type 0
HasParts gnil = ⊥
HasParts (gnum n) = ⊥
HasParts (gcons a b) = Unit {0}

-- trees that are stored alike are the same
pub stored-inj : (f g : Trees) → stored f ≡ stored g → f ≡ g
stored-inj none none p = refl
stored-inj none (tree n y t l q) p = absurd (subst HasParts (sym p) tt)
stored-inj (tree m x s k r) none p = absurd (subst HasParts p tt)
stored-inj (tree m x s k r) (tree n y t l q) p = λ i.
    tree (as_number (first_part (p i)))
    (facts_code.inj x y (ap (λ v. first_part (other_parts v)) p) i)
    (stored-inj s t (ap (λ v. first_part (other_parts (other_parts v))) p) i)
    (stored-inj k l (ap (λ v. first_part (other_parts (other_parts (other_parts v)))) p) i)
    (stored-inj r q (ap (λ v. other_parts (other_parts (other_parts (other_parts v)))) p) i)

abbrev pub trees_code : Coded Trees
trees_code = record { code = stored; inj = stored-inj }
