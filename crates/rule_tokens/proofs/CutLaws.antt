-- The tokens of a line are those of its layout, and a fault of its quotes is one of three.
use Rattle.std.proofs.Common.{◌≡◌, ◌≢◌, ℕ, true, false, eqb, List, [], ◌∷◌, ◌++◌, Result, Ok, Err, refl, sym, ap, subst, ◌∙◌, append_assoc, append-nil, inl}
use Rattle.std.proofs.Common.{inr, ◌⊎◌}
use Rattle.std.proofs.lemmas.Bool.Decides.{eqb_tells}
use Rattle.rule_tokens.specs.declared.refused.Bad.{Bad}
use Rattle.rule_tokens.specs.declared.refused.Bad.TheVariants.{Quote}
use Rattle.rule_tokens.specs.declared.cutting.Raw.{Raw}
use Rattle.rule_tokens.specs.declared.cutting.Within.{Within}
use Rattle.rule_tokens.specs.declared.cutting.Within.TheVariants.{Gap, Bare, Quoted, Protected, Closed}
use Rattle.rule_tokens.specs.Cut.{cut, raw}
use Rattle.rule_tokens.specs.Gives.{with_front}
use Rattle.rule_tokens.specs.Layout.{Piece, Plain, Guarded, pieces, ArePieces, AreBare, IsBare, Item, Space, BareToken, QuotedToken, items_text, AreItems, raws}
use Rattle.rule_tokens.specs.Layout.{IsEnd, LaidOut, HasNoEnd, HasTextBehind, HasQuoteInside, EndsIn, IsMisquoted}

-- ---- what a cut says of the line

-- one of the three faults
abbrev pub IsMisquotedEnd : List ℕ → Type 0
IsMisquotedEnd last = HasNoEnd last ⊎ (HasTextBehind last ⊎ HasQuoteInside last)

abbrev pub Cuts : List ℕ → Result (List Raw) Bad → Type 0
Cuts line (Ok tokens) = LaidOut line tokens
Cuts line (Err b) = (b ≡ Quote) × EndsIn IsMisquotedEnd line

cuts_as : (line line' : List ℕ) (r r' : Result (List Raw) Bad) → line ≡ line' → r ≡ r' → Cuts line r → Cuts line' r'
cuts_as line line' r r' p q cuts = subst (λ (x : List ℕ). Cuts x r') p (subst (λ (x : Result (List Raw) Bad). Cuts line x) q cuts)

put_space : (line : List ℕ) (r : Result (List Raw) Bad) → Cuts line r → Cuts (32 ∷ line) r
put_space line (Ok tokens) c =
    record {
      items = Space ∷ c.items;
      fit = c.fit;
      last = c.last;
      last_tokens = c.last_tokens;
      line_is = ap (λ (l : List ℕ). 32 ∷ l) c.line_is;
      tokens_are = c.tokens_are;
      is_last = c.is_last;
    }
put_space line (Err b) c = (
  c.0,
  record { items = Space ∷ c.1.items; fit = c.1.fit; last = c.1.last; line_is = ap (λ (l : List ℕ). 32 ∷ l) c.1.line_is; is = c.1.is },
)

bare_line : (w fs last line : List ℕ) → line ≡ fs ++ last → w ++ 32 ∷ line ≡ (w ++ 32 ∷ fs) ++ last
bare_line w fs last line is = ap (λ (l : List ℕ). w ++ 32 ∷ l) is ∙ sym (append_assoc w (32 ∷ fs) last)

put_bare : (w line : List ℕ) (r : Result (List Raw) Bad) → IsBare w → Cuts line r → Cuts (w ++ 32 ∷ line) (with_front (raw false w ∷ []) r)
put_bare w line (Ok tokens) bare c =
    record {
      items = BareToken w ∷ c.items;
      fit = (bare, c.fit);
      last = c.last;
      last_tokens = c.last_tokens;
      line_is = bare_line w (items_text c.items) c.last line c.line_is;
      tokens_are = ap (λ (t : List Raw). raw false w ∷ t) c.tokens_are;
      is_last = c.is_last;
    }
put_bare w line (Err b) bare c = (
  c.0,
  record {
    items = BareToken w ∷ c.1.items;
    fit = (bare, c.1.fit);
    last = c.1.last;
    line_is = bare_line w (items_text c.1.items) c.1.last line c.1.line_is;
    is = c.1.is;
  },
)

quoted_line : (inside fs last line : List ℕ) → line ≡ fs ++ last → 34 ∷ (inside ++ 34 ∷ 32 ∷ line) ≡ (34 ∷ (inside ++ 34 ∷ 32 ∷ fs)) ++ last
quoted_line inside fs last line is =
    ap (λ (l : List ℕ). 34 ∷ (inside ++ 34 ∷ 32 ∷ l)) is ∙ ap (λ (l : List ℕ). 34 ∷ l) (sym (append_assoc inside (34 ∷ 32 ∷ fs) last))

put_quoted : (ps : List Piece) (line : List ℕ) (r : Result (List Raw) Bad) → ArePieces ps → Cuts line r
    → Cuts (34 ∷ (pieces ps ++ 34 ∷ 32 ∷ line)) (with_front (raw true (pieces ps) ∷ []) r)
put_quoted ps line (Ok tokens) fit c =
    record {
      items = QuotedToken ps ∷ c.items;
      fit = (fit, c.fit);
      last = c.last;
      last_tokens = c.last_tokens;
      line_is = quoted_line (pieces ps) (items_text c.items) c.last line c.line_is;
      tokens_are =
          ap (λ (t : List Raw). raw true (pieces ps) ∷ t) c.tokens_are;
      is_last = c.is_last;
    }
put_quoted ps line (Err b) fit c = (
  c.0,
  record {
    items = QuotedToken ps ∷ c.1.items;
    fit = (fit, c.1.fit);
    last = c.1.last;
    line_is = quoted_line (pieces ps) (items_text c.1.items) c.1.last line c.1.line_is;
    is = c.1.is;
  },
)

-- nothing stands in front of it
at_end : (last : List ℕ) (tokens : List Raw) → IsEnd last tokens → Cuts last (Ok tokens)
at_end last tokens is = record { items = []; fit = tt; last = last; last_tokens = tokens; line_is = refl; tokens_are = refl; is_last = is }

at_fault : (last : List ℕ) → IsMisquotedEnd last → Cuts last (Err Quote)
at_fault last is = (refl, record { items = []; fit = tt; last = last; line_is = refl; is = is })

-- ---- one more character

bare_more : (w : List ℕ) (c : ℕ) → IsBare w → c ≢ 32 → c ≢ 34 → IsBare (w ++ c ∷ [])
bare_more [] c bare s q = absurd bare
bare_more (x ∷ w) c bare s q = (bare.0, go w bare.1)
  where
    go : (v : List ℕ) → AreBare v → AreBare (v ++ c ∷ [])
    go [] b = ((s, q), tt)
    go (y ∷ v) b = (b.0, go v b.1)

pub pieces_more : (ps qs : List Piece) → pieces (ps ++ qs) ≡ pieces ps ++ pieces qs
pieces_more [] qs = refl
pieces_more (Plain c ∷ ps) qs = ap (λ (l : List ℕ). c ∷ l) (pieces_more ps qs)
pieces_more (Guarded c ∷ ps) qs = ap (λ (l : List ℕ). 92 ∷ c ∷ l) (pieces_more ps qs)

pub are_more : (ps qs : List Piece) → ArePieces ps → ArePieces qs → ArePieces (ps ++ qs)
are_more [] qs one two = two
are_more (Plain c ∷ ps) qs one two = (one.0, are_more ps qs one.1 two)
are_more (Guarded c ∷ ps) qs one two = are_more ps qs one two

-- ---- within what the rest of a line stands, and what it says then

abbrev Sees : Within → List ℕ → Type 0
Sees Gap cs = Cuts cs (cut cs Gap)
Sees (Bare w) cs = IsBare w → Cuts (w ++ cs) (cut cs (Bare w))
Sees (Quoted w) cs = (ps : List Piece) → ArePieces ps → w ≡ pieces ps → Cuts (34 ∷ (w ++ cs)) (cut cs (Quoted w))
Sees (Protected w) cs = (ps : List Piece) → ArePieces ps → w ≡ pieces ps ++ 92 ∷ [] → Cuts (34 ∷ (w ++ cs)) (cut cs (Protected w))
Sees Closed cs = (ps : List Piece) → ArePieces ps → Cuts (34 ∷ (pieces ps ++ 34 ∷ cs)) (with_front (raw true (pieces ps) ∷ []) (cut cs Closed))

no_end : (w : List ℕ) (ps : List Piece) (tail : List ℕ) → ArePieces ps → (tail ≡ []) ⊎ (tail ≡ 92 ∷ []) → w ≡ pieces ps ++ tail
    → Cuts (34 ∷ (w ++ [])) (Err Quote)
no_end w ps tail fit is w_is = at_fault (34 ∷ (w ++ [])) (inl (ps, tail, (fit, is, ap (λ (l : List ℕ). 34 ∷ l) (append-nil w ∙ w_is))))

-- a test of one character, with what it says
abbrev pub Tells : ℕ → ℕ → Type 0
Tells c d = ((eqb c d ≡ true) × (c ≡ d)) ⊎ ((eqb c d ≡ false) × (c ≢ d))

pub not_same : (c d : ℕ) → c ≢ d → eqb c d ≡ false
not_same c d differ = go (eqb_tells c d)
  where
    go : Tells c d → eqb c d ≡ false
    go (inl e) = absurd (differ e.1)
    go (inr e) = e.0

same_first : (c d : ℕ) (w cs : List ℕ) → c ≡ d → w ++ d ∷ cs ≡ w ++ c ∷ cs
same_first c d w cs is = ap (λ (x : ℕ). w ++ x ∷ cs) (sym is)

in_gap : (c : ℕ) (cs : List ℕ) → ((m : Within) → Sees m cs) → Tells c 32 → Tells c 34 → Sees Gap (c ∷ cs)
unfolding cut
in_gap c cs next (inl s) q = cuts_as (32 ∷ cs) (c ∷ cs) (cut cs Gap) (cut (c ∷ cs) Gap) (same_first c 32 [] cs s.1) (rw s.0 refl)
    (put_space cs (cut cs Gap) (next Gap))
in_gap c cs next (inr s) (inl q) =
    cuts_as (34 ∷ cs) (c ∷ cs) (cut cs (Quoted [])) (cut (c ∷ cs) Gap) (same_first c 34 [] cs q.1) (rw (s.0, q.0) refl) (next (Quoted []) [] tt refl)
in_gap c cs next (inr s) (inr q) =
    cuts_as (c ∷ cs) (c ∷ cs) (cut cs (Bare (c ∷ []))) (cut (c ∷ cs) Gap) refl (rw (s.0, q.0) refl) (next (Bare (c ∷ [])) ((s.1, q.1), tt))

in_bare : (c : ℕ) (cs w : List ℕ) → ((m : Within) → Sees m cs) → Tells c 32 → Tells c 34 → Sees (Bare w) (c ∷ cs)
unfolding cut
in_bare c cs w next (inl s) q bare =
    cuts_as (w ++ 32 ∷ cs) (w ++ c ∷ cs) (with_front (raw false w ∷ []) (cut cs Gap)) (cut (c ∷ cs) (Bare w)) (same_first c 32 w cs s.1) (rw s.0 refl)
    (put_bare w cs (cut cs Gap) bare (next Gap))
in_bare c cs w next (inr s) (inl q) bare =
    cuts_as (w ++ 34 ∷ cs) (w ++ c ∷ cs) (Err Quote) (cut (c ∷ cs) (Bare w)) (same_first c 34 w cs q.1) (rw (s.0, q.0) refl)
    (at_fault (w ++ 34 ∷ cs) (inr (inr (w, cs, (bare, refl)))))
in_bare c cs w next (inr s) (inr q) bare =
    cuts_as ((w ++ c ∷ []) ++ cs) (w ++ c ∷ cs) (cut cs (Bare (w ++ c ∷ []))) (cut (c ∷ cs) (Bare w)) (append_assoc w (c ∷ []) cs) (rw (s.0, q.0) refl)
    (next (Bare (w ++ c ∷ [])) (bare_more w c bare s.1 q.1))

more_inside : (c : ℕ) (cs w : List ℕ) → 34 ∷ ((w ++ c ∷ []) ++ cs) ≡ 34 ∷ (w ++ c ∷ cs)
more_inside c cs w = ap (λ (l : List ℕ). 34 ∷ l) (append_assoc w (c ∷ []) cs)

in_quoted : (c : ℕ) (cs w : List ℕ) → ((m : Within) → Sees m cs) → Tells c 34 → Tells c 92 → Sees (Quoted w) (c ∷ cs)
unfolding cut
in_quoted c cs w next (inl q) b ps fit is =
    cuts_as (34 ∷ (pieces ps ++ 34 ∷ cs)) (34 ∷ (w ++ c ∷ cs)) (with_front (raw true (pieces ps) ∷ []) (cut cs Closed)) (cut (c ∷ cs) (Quoted w))
    (ap (λ (l : List ℕ). 34 ∷ (l ++ 34 ∷ cs)) (sym is) ∙ ap (λ (l : List ℕ). 34 ∷ l) (same_first c 34 w cs q.1)) (rw (q.0, is) refl) (next Closed ps fit)
in_quoted c cs w next (inr q) (inl b) ps fit is =
    cuts_as (34 ∷ ((w ++ c ∷ []) ++ cs)) (34 ∷ (w ++ c ∷ cs)) (cut cs (Protected (w ++ c ∷ []))) (cut (c ∷ cs) (Quoted w))
    (more_inside c cs w) (rw (q.0, b.0) refl) (next (Protected (w ++ c ∷ [])) ps fit (ap (λ (x : ℕ). w ++ x ∷ []) b.1 ∙ ap (λ (l : List ℕ). l ++ 92 ∷ []) is))
in_quoted c cs w next (inr q) (inr b) ps fit is =
    cuts_as (34 ∷ ((w ++ c ∷ []) ++ cs)) (34 ∷ (w ++ c ∷ cs)) (cut cs (Quoted (w ++ c ∷ []))) (cut (c ∷ cs) (Quoted w))
    (more_inside c cs w) (rw (q.0, b.0) refl)
    (next (Quoted (w ++ c ∷ [])) (ps ++ Plain c ∷ []) (are_more ps (Plain c ∷ []) fit ((q.1, b.1), tt))
    (ap (λ (l : List ℕ). l ++ c ∷ []) is ∙ sym (pieces_more ps (Plain c ∷ []))))

in_protected : (c : ℕ) (cs w : List ℕ) → ((m : Within) → Sees m cs) → Sees (Protected w) (c ∷ cs)
unfolding cut
in_protected c cs w next ps fit is = cuts_as (34 ∷ ((w ++ c ∷ []) ++ cs)) (34 ∷ (w ++ c ∷ cs)) (cut cs (Quoted (w ++ c ∷ []))) (cut (c ∷ cs) (Protected w))
    (more_inside c cs w) refl (next (Quoted (w ++ c ∷ [])) (ps ++ Guarded c ∷ []) (are_more ps (Guarded c ∷ []) fit tt)
    (ap (λ (l : List ℕ). l ++ c ∷ []) is ∙ (append_assoc (pieces ps) (92 ∷ []) (c ∷ []) ∙ sym (pieces_more ps (Guarded c ∷ [])))))

behind_quote : (c : ℕ) (cs : List ℕ) → ((m : Within) → Sees m cs) → Tells c 32 → Sees Closed (c ∷ cs)
unfolding cut
behind_quote c cs next (inl s) ps fit =
    cuts_as (34 ∷ (pieces ps ++ 34 ∷ 32 ∷ cs)) (34 ∷ (pieces ps ++ 34 ∷ c ∷ cs)) (with_front (raw true (pieces ps) ∷ []) (cut cs Gap))
    (with_front (raw true (pieces ps) ∷ []) (cut (c ∷ cs) Closed))
    (ap (λ (x : ℕ). 34 ∷ (pieces ps ++ 34 ∷ x ∷ cs)) (sym s.1)) (rw s.0 refl) (put_quoted ps cs (cut cs Gap) fit (next Gap))
behind_quote c cs next (inr s) ps fit =
    cuts_as (34 ∷ (pieces ps ++ 34 ∷ c ∷ cs)) (34 ∷ (pieces ps ++ 34 ∷ c ∷ cs)) (Err Quote) (with_front (raw true (pieces ps) ∷ []) (cut (c ∷ cs) Closed))
    refl (rw s.0 refl) (at_fault (34 ∷ (pieces ps ++ 34 ∷ c ∷ cs)) (inr (inl (ps, c, cs, (fit, s.1, refl)))))

sees_more : (c : ℕ) (cs : List ℕ) → ((m : Within) → Sees m cs) → (within : Within) → Sees within (c ∷ cs)
sees_more c cs next Gap = in_gap c cs next (eqb_tells c 32) (eqb_tells c 34)
sees_more c cs next (Bare w) = in_bare c cs w next (eqb_tells c 32) (eqb_tells c 34)
sees_more c cs next (Quoted w) = in_quoted c cs w next (eqb_tells c 34) (eqb_tells c 92)
sees_more c cs next (Protected w) = in_protected c cs w next
sees_more c cs next Closed = behind_quote c cs next (eqb_tells c 32)

sees_none : (within : Within) → Sees within []
unfolding cut
sees_none Gap = at_end [] [] (inl (refl, refl))
sees_none (Bare w) = λ bare. cuts_as w (w ++ []) (Ok (raw false w ∷ [])) (Ok (raw false w ∷ [])) (sym (append-nil w)) refl
    (at_end w (raw false w ∷ []) (inr (inl (bare, refl))))
sees_none (Quoted w) = λ ps fit is. no_end w ps [] fit (inl refl) (is ∙ sym (append-nil (pieces ps)))
sees_none (Protected w) = λ ps fit is. no_end w ps (92 ∷ []) fit (inr refl) is
sees_none Closed = λ ps fit. at_end (34 ∷ (pieces ps ++ 34 ∷ [])) (raw true (pieces ps) ∷ []) (inr (inr (ps, (fit, refl, refl))))

sees : (cs : List ℕ) (within : Within) → Sees within cs
sees [] within = sees_none within
sees (c ∷ cs) within = sees_more c cs (λ m. sees cs m) within

-- what a cut says of the line
pub cuts : (line : List ℕ) → Cuts line (cut line Gap)
cuts line = sees line Gap

-- ---- what a layout says of the cut

pub with_none : {A : Type 0} (r : Result (List A) Bad) → with_front [] r ≡ r
with_none (Ok xs) = refl
with_none (Err b) = refl

pub with_more : {A : Type 0} (xs ys : List A) (r : Result (List A) Bad) → with_front xs (with_front ys r) ≡ with_front (xs ++ ys) r
with_more xs ys (Ok zs) = ap Ok (sym (append_assoc xs ys zs))
with_more xs ys (Err b) = refl

over_bare : (v w rest : List ℕ) → AreBare v → cut (v ++ rest) (Bare w) ≡ cut rest (Bare (w ++ v))
unfolding cut
over_bare [] w rest bare = ap (λ (l : List ℕ). cut rest (Bare l)) (sym (append-nil w))
over_bare (c ∷ v) w rest bare =
    rw (not_same c 32 bare.0.0, not_same c 34 bare.0.1)
    (over_bare v (w ++ c ∷ []) rest bare.1 ∙ ap (λ (l : List ℕ). cut rest (Bare l)) (append_assoc w (c ∷ []) v))

over_token : (w rest : List ℕ) → IsBare w → cut (w ++ rest) Gap ≡ cut rest (Bare w)
unfolding cut
over_token [] rest bare = absurd bare
over_token (c ∷ w) rest bare = rw (not_same c 32 bare.0.0, not_same c 34 bare.0.1) (over_bare w (c ∷ []) rest bare.1)

over_pieces : (ps : List Piece) (w rest : List ℕ) → ArePieces ps → cut (pieces ps ++ rest) (Quoted w) ≡ cut rest (Quoted (w ++ pieces ps))
unfolding cut
over_pieces [] w rest fit = ap (λ (l : List ℕ). cut rest (Quoted l)) (sym (append-nil w))
over_pieces (Plain c ∷ ps) w rest fit =
    rw (not_same c 34 fit.0.0, not_same c 92 fit.0.1)
    (over_pieces ps (w ++ c ∷ []) rest fit.1 ∙ ap (λ (l : List ℕ). cut rest (Quoted l)) (append_assoc w (c ∷ []) (pieces ps)))
over_pieces (Guarded c ∷ ps) w rest fit =
    over_pieces ps ((w ++ 92 ∷ []) ++ c ∷ []) rest fit
    ∙ ap (λ (l : List ℕ). cut rest (Quoted l)) (append_assoc (w ++ 92 ∷ []) (c ∷ []) (pieces ps) ∙ append_assoc w (92 ∷ []) (c ∷ pieces ps))

over_inside : (ps : List Piece) (rest : List ℕ) → ArePieces ps → cut (34 ∷ (pieces ps ++ rest)) Gap ≡ cut rest (Quoted (pieces ps))
unfolding cut
over_inside ps rest fit = over_pieces ps [] rest fit

over_items : (fs : List Item) (rest : List ℕ) → AreItems fs → cut (items_text fs ++ rest) Gap ≡ with_front (raws fs) (cut rest Gap)
unfolding cut
over_items [] rest fit = sym (with_none (cut rest Gap))
over_items (Space ∷ fs) rest fit = over_items fs rest fit
over_items (BareToken w ∷ fs) rest fit =
    ap (λ (l : List ℕ). cut l Gap) (append_assoc w (32 ∷ items_text fs) rest)
    ∙ (over_token w (32 ∷ (items_text fs ++ rest)) fit.0
    ∙ (ap (with_front (raw false w ∷ [])) (over_items fs rest fit.1) ∙ with_more (raw false w ∷ []) (raws fs) (cut rest Gap)))
over_items (QuotedToken ps ∷ fs) rest fit =
    ap (λ (l : List ℕ). cut (34 ∷ l) Gap) (append_assoc (pieces ps) (34 ∷ 32 ∷ items_text fs) rest)
    ∙ (over_inside ps (34 ∷ 32 ∷ (items_text fs ++ rest)) fit.0
    ∙ (ap (with_front (raw true (pieces ps) ∷ [])) (over_items fs rest fit.1) ∙ with_more (raw true (pieces ps) ∷ []) (raws fs) (cut rest Gap)))

cut_end : (last : List ℕ) (tokens : List Raw) → IsEnd last tokens → cut last Gap ≡ Ok tokens
unfolding cut
cut_end last tokens (inl e) = rw (e.0, e.1) refl
cut_end last tokens (inr (inl e)) = ap (λ (l : List ℕ). cut l Gap) (sym (append-nil last)) ∙ (over_token last [] e.0 ∙ ap Ok (sym e.1))
cut_end last tokens (inr (inr (ps, e))) = ap (λ (l : List ℕ). cut l Gap) e.1 ∙ (over_inside ps (34 ∷ []) e.0 ∙ ap Ok (sym e.2))

pub cut_laid_out : (line : List ℕ) (tokens : List Raw) → LaidOut line tokens → cut line Gap ≡ Ok tokens
cut_laid_out line tokens l =
    ap (λ (x : List ℕ). cut x Gap) l.line_is
    ∙ (over_items l.items l.last l.fit
    ∙ (ap (with_front (raws l.items)) (cut_end l.last l.last_tokens l.is_last) ∙ ap Ok (sym l.tokens_are)))

cut_tail : (w tail : List ℕ) → (tail ≡ []) ⊎ (tail ≡ 92 ∷ []) → cut tail (Quoted w) ≡ Err Quote
unfolding cut
cut_tail w tail (inl e) = rw e refl
cut_tail w tail (inr e) = rw e refl

cut_behind : (ps : List Piece) (c : ℕ) (more : List ℕ) → c ≢ 32 → cut (34 ∷ c ∷ more) (Quoted (pieces ps)) ≡ Err Quote
unfolding cut
cut_behind ps c more s = rw (not_same c 32 s) refl

cut_inside : (w more : List ℕ) → cut (34 ∷ more) (Bare w) ≡ Err Quote
unfolding cut
cut_inside w more = refl

cut_last : (last : List ℕ) → IsMisquotedEnd last → cut last Gap ≡ Err Quote
cut_last last (inl (ps, tail, e)) = ap (λ (l : List ℕ). cut l Gap) e.2 ∙ (over_inside ps tail e.0 ∙ cut_tail (pieces ps) tail e.1)
cut_last last (inr (inl (ps, c, more, e))) = ap (λ (l : List ℕ). cut l Gap) e.2 ∙ (over_inside ps (34 ∷ c ∷ more) e.0 ∙ cut_behind ps c more e.1)
cut_last last (inr (inr (w, more, e))) = ap (λ (l : List ℕ). cut l Gap) e.1 ∙ (over_token w (34 ∷ more) e.0 ∙ cut_inside w more)

cut_misquoted : (line : List ℕ) → EndsIn IsMisquotedEnd line → cut line Gap ≡ Err Quote
cut_misquoted line f =
    ap (λ (x : List ℕ). cut x Gap) f.line_is
    ∙ (over_items f.items f.last f.fit ∙ ap (with_front (raws f.items)) (cut_last f.last f.is))

-- ---- the three faults apart

follows : (Is Also : List ℕ → Type 0) → ((last : List ℕ) → Is last → Also last) → (line : List ℕ) → EndsIn Is line → EndsIn Also line
follows Is Also also line f = record { items = f.items; fit = f.fit; last = f.last; line_is = f.line_is; is = also f.last f.is }

pub misquoted_apart : (line : List ℕ) → EndsIn IsMisquotedEnd line → IsMisquoted line
misquoted_apart line f = go f.is
  where
    go : IsMisquotedEnd f.last → IsMisquoted line
    go (inl is) = inl (record { items = f.items; fit = f.fit; last = f.last; line_is = f.line_is; is = is })
    go (inr (inl is)) = inr (inl (record { items = f.items; fit = f.fit; last = f.last; line_is = f.line_is; is = is }))
    go (inr (inr is)) = inr (inr (record { items = f.items; fit = f.fit; last = f.last; line_is = f.line_is; is = is }))

pub cut_misquoted_by : (line : List ℕ) → IsMisquoted line → cut line Gap ≡ Err Quote
cut_misquoted_by line (inl f) = cut_misquoted line (follows HasNoEnd IsMisquotedEnd (λ last is. inl is) line f)
cut_misquoted_by line (inr (inl f)) = cut_misquoted line (follows HasTextBehind IsMisquotedEnd (λ last is. inr (inl is)) line f)
cut_misquoted_by line (inr (inr f)) = cut_misquoted line (follows HasQuoteInside IsMisquotedEnd (λ last is. inr (inr is)) line f)
