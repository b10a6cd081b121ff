-- How a line is laid out. First come items: spaces, and tokens with the space behind each. What comes last is
-- nothing, or a token, or what is wrong with the quotes. (32 is a space, 34 a quote, 92 a backslash.)
use Rattle.std.specs.Prelude.{◌≡◌, ◌≢◌, ℕ, true, false, List, [], ◌∷◌, ◌++◌, ◌⊎◌}
use Rattle.rule_tokens.specs.declared.cutting.Raw.{Raw}
use Rattle.rule_tokens.specs.Cut.{raw}

-- between quotes: a character, or a backslash and the character that it protects
pub data Piece : Type 0 where
  Plain : ℕ → Piece
  Guarded : ℕ → Piece

abbrev pub pieces : List Piece → List ℕ
pieces [] = []
pieces (Plain c ∷ ps) = c ∷ pieces ps
pieces (Guarded c ∷ ps) = 92 ∷ c ∷ pieces ps

-- a plain character is neither a quote nor a backslash
abbrev pub ArePieces : List Piece → Type 0
ArePieces [] = Unit {0}
ArePieces (Plain c ∷ ps) = ((c ≢ 34) × (c ≢ 92)) × ArePieces ps
ArePieces (Guarded c ∷ ps) = ArePieces ps

-- no space and no quote
abbrev pub AreBare : List ℕ → Type 0
AreBare [] = Unit {0}
AreBare (c ∷ cs) = ((c ≢ 32) × (c ≢ 34)) × AreBare cs

-- a bare token: one or more such characters
abbrev pub IsBare : List ℕ → Type 0
IsBare [] = ⊥
IsBare (c ∷ cs) = AreBare (c ∷ cs)

-- a space, or a token and the space behind it
pub data Item : Type 0 where
  Space : Item
  BareToken : List ℕ → Item
  QuotedToken : List Piece → Item

abbrev pub items_text : List Item → List ℕ
items_text [] = []
items_text (Space ∷ more) = 32 ∷ items_text more
items_text (BareToken w ∷ more) = w ++ 32 ∷ items_text more
items_text (QuotedToken ps ∷ more) = 34 ∷ (pieces ps ++ 34 ∷ 32 ∷ items_text more)

abbrev pub AreItems : List Item → Type 0
AreItems [] = Unit {0}
AreItems (Space ∷ more) = AreItems more
AreItems (BareToken w ∷ more) = IsBare w × AreItems more
AreItems (QuotedToken ps ∷ more) = ArePieces ps × AreItems more

-- the tokens of items
abbrev pub raws : List Item → List Raw
raws [] = []
raws (Space ∷ more) = raws more
raws (BareToken w ∷ more) = raw false w ∷ raws more
raws (QuotedToken ps ∷ more) = raw true (pieces ps) ∷ raws more

-- the line is items and then a last part, which is so, and the tokens are those of both
pub record ItemsThen (IsLast : List ℕ → List Raw → Type 0) (line : List ℕ) (tokens : List Raw) : Type 0 where
  pub items : List Item
  pub fit : AreItems items
  pub last : List ℕ
  pub last_tokens : List Raw
  pub line_is : line ≡ items_text items ++ last
  pub tokens_are : tokens ≡ raws items ++ last_tokens
  pub is_last : IsLast last last_tokens

-- nothing, or one more token
abbrev pub IsEnd : List ℕ → List Raw → Type 0
IsEnd last tokens =
    ((last ≡ []) × (tokens ≡ []))
    ⊎ ((IsBare last × (tokens ≡ raw false last ∷ []))
    ⊎ ((ps : List Piece) × (ArePieces ps × (last ≡ 34 ∷ (pieces ps ++ 34 ∷ [])) × (tokens ≡ raw true (pieces ps) ∷ []))))

-- the line is laid out as these tokens
abbrev pub LaidOut : List ℕ → List Raw → Type 0
LaidOut = ItemsThen IsEnd

-- a quoted token that has no end: it goes on to the end of the line, perhaps to a backslash that protects nothing
abbrev pub HasNoEnd : List ℕ → Type 0
HasNoEnd last = (ps : List Piece) × (tail : List ℕ) × (ArePieces ps × ((tail ≡ []) ⊎ (tail ≡ 92 ∷ [])) × (last ≡ 34 ∷ (pieces ps ++ tail)))

-- a quoted token whose end is followed by something other than a space
abbrev pub HasTextBehind : List ℕ → Type 0
HasTextBehind last = (ps : List Piece) × (c : ℕ) × (more : List ℕ) × (ArePieces ps × (c ≢ 32) × (last ≡ 34 ∷ (pieces ps ++ 34 ∷ c ∷ more)))

-- a bare token with a quote in it
abbrev pub HasQuoteInside : List ℕ → Type 0
HasQuoteInside last = (w : List ℕ) × (more : List ℕ) × (IsBare w × (last ≡ w ++ 34 ∷ more))

-- the line is items and then a last part, which is so
pub record EndsIn (Is : List ℕ → Type 0) (line : List ℕ) : Type 0 where
  pub items : List Item
  pub fit : AreItems items
  pub last : List ℕ
  pub line_is : line ≡ items_text items ++ last
  pub is : Is last

abbrev pub OpenQuote : List ℕ → Type 0
OpenQuote = EndsIn HasNoEnd

abbrev pub TextAfterQuote : List ℕ → Type 0
TextAfterQuote = EndsIn HasTextBehind

abbrev pub QuoteInBare : List ℕ → Type 0
QuoteInBare = EndsIn HasQuoteInside

-- one of the three
abbrev pub IsMisquoted : List ℕ → Type 0
IsMisquoted line = OpenQuote line ⊎ (TextAfterQuote line ⊎ QuoteInBare line)
