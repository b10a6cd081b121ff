-- Operands that are neither nodes nor values name nothing of a body.
use Rattle.std.proofs.Common.{◌≡◌, ℕ, Bool, true, false, cond, List, [], ◌∷◌, map, Option, Some, None, refl}
use Rattle.std.specs.List.{list_any}
use Rattle.ce_base.specs.declared.entries.Entry.{Entry}
use Rattle.rule_lines.specs.declared.read_as.ReadAs.TheVariants as read_as
use Rattle.rule_reader.specs.AsRead.{part, mark, pairs, named}
use Rattle.rule_script.specs.Place.{names_body}
use Rattle.std.proofs.Math.Bool.{or-false}

pub chars_name_nothing : (o : Option (List ℕ)) → names_body (part read_as.Chars o) ≡ false
chars_name_nothing None = refl
chars_name_nothing (Some t) = refl

pub marks_name_nothing : (b : Bool) → names_body (mark b) ≡ false
marks_name_nothing true = refl
marks_name_nothing false = refl

pub pairs_name_nothing : (entries : List Entry) → list_any names_body (pairs entries) ≡ false
pairs_name_nothing [] = refl
pairs_name_nothing (e ∷ entries) = pairs_name_nothing entries

pub texts_name_nothing : (texts : List (List ℕ)) → list_any names_body (map read_as.Chars texts) ≡ false
texts_name_nothing [] = refl
texts_name_nothing (t ∷ texts) = texts_name_nothing texts

pub names_name_nothing : (name : Option (List ℕ)) → list_any names_body (named name) ≡ false
names_name_nothing None = refl
names_name_nothing (Some name) = refl

pub either_way : {A : Type 0} (b : Bool) (x : A) → cond b x x ≡ x
either_way true x = refl
either_way false x = refl

pub ruleset operand_steps = (chars_name_nothing, marks_name_nothing, pairs_name_nothing, texts_name_nothing, names_name_nothing, or-false, either_way)
