-- What came to the sink below, where the one over it took some bytes and passed them on.
use Rattle.std.proofs.Common.{◌≡◌, ◌≤◌, ℕ, List, [], ◌∷◌, ◌++◌, length, refl, sym, ap, subst, ◌∙◌, append_assoc, append-nil, arith, Some, None}
use Rattle.std.specs.Io.KnownBytes.{Appends, Keeps}
use Rattle.std.specs.declared.option.Option.{Option}
use Rattle.ce_base.specs.Gathered.{behind, count_of}
use Rattle.ce_base.specs.Outside.{AppendsPart}

-- with nothing pending, a sink holds what the one below holds
pub nothing_pending : (held : Option (List ℕ)) → behind held [] ≡ held
nothing_pending None = refl
nothing_pending (Some held) = ap Some (append-nil held)

-- so it is before anything is written
pub at_first : (held : Option (List ℕ)) (before : List ℕ) → before ≡ [] → behind held before ≡ held
at_first held before none = ap (behind held) none ∙ nothing_pending held

pub appends_keeps : (held mid held' : Option (List ℕ)) (bytes : List ℕ) → Appends held mid bytes → Keeps mid held' → Appends held held' bytes
appends_keeps None mid held' bytes one two = tt
appends_keeps (Some held) None held' bytes one two = absurd one
appends_keeps (Some held) (Some mid) None bytes one two = absurd two
appends_keeps (Some held) (Some mid) (Some held') bytes one two = two ∙ one

-- what stands behind a list, where a list that is no shorter is followed by some
pub behind_longer : (short long pending bytes : List ℕ) → long ++ pending ≡ short ++ bytes → length short ≤ length long
    → (part : List ℕ) × (part ++ pending ≡ bytes) × (long ≡ short ++ part)
behind_longer [] long pending bytes is le = (long, is, refl)
behind_longer (x ∷ short) [] pending bytes is le = absurd (omega (arith, le))
behind_longer (x ∷ short) (y ∷ long) pending bytes is le =
    let same : y ∷ (long ++ pending) ≡ x ∷ (short ++ bytes) = is in
    let first : y ≡ x = (cc) in
    let others : long ++ pending ≡ short ++ bytes = (cc) in
    let rest = behind_longer short long pending bytes others (omega (arith, le)) in
    (rest.0, rest.1, ap (λ z. z ∷ long) first ∙ ap (λ l. x ∷ l) rest.2)

-- the sink below has a front, if it holds no less than at first
pub below_front : (held below : Option (List ℕ)) (pending bytes : List ℕ) → Appends held (behind below pending) bytes → count_of held ≤ count_of below
    → AppendsPart held below bytes
below_front None below pending bytes is le = ([], (bytes, refl), tt)
below_front (Some held) None pending bytes is le = absurd is
below_front (Some held) (Some below) pending bytes is le =
    let p = behind_longer held below pending bytes is le in
    (p.0, (pending, p.1), p.2)

pub below_part : (held below : Option (List ℕ)) (pending bytes : List ℕ) → AppendsPart held (behind below pending) bytes → count_of held ≤ count_of below
    → AppendsPart held below bytes
below_part held below pending bytes part le =
    let p = below_front held below pending part.0 part.2 le in
    (p.0, (p.1.0 ++ part.1.0, sym (append_assoc p.0 p.1.0 part.1.0) ∙ (ap (λ l. l ++ part.1.0) p.1.1 ∙ part.1.1)), p.2)

-- all was taken, and some of it passed on
pub passed_some : (held mid below : Option (List ℕ)) (before after bytes : List ℕ)
    → before ≡ [] → Appends (behind held before) mid bytes → Keeps mid (behind below after) → count_of held ≤ count_of below → AppendsPart held below bytes
passed_some held mid below before after bytes none wrote keeps le =
    let P : Option (List ℕ) → Type 0 = λ h. Appends h (behind below after) bytes in
    below_front held below after bytes (subst P (at_first held before none) (appends_keeps (behind held before) mid (behind below after) bytes wrote keeps)) le

-- a front was taken, and some of it passed on
pub passed_part : (held below : Option (List ℕ)) (before after bytes : List ℕ)
    → before ≡ [] → AppendsPart (behind held before) (behind below after) bytes → count_of held ≤ count_of below → AppendsPart held below bytes
passed_part held below before after bytes none part le =
    let P : Option (List ℕ) → Type 0 = λ h. AppendsPart h (behind below after) bytes in
    below_part held below after bytes (subst P (at_first held before none) part) le
