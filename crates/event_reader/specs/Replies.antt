-- What the reply of a line is read as.
use Rattle.std.specs.Prelude.{ℕ, Bool, ◌||◌, not, codes, if◌then◌else◌, List, [], ◌∷◌, Option, Some, None}
use Rattle.std.specs.Option.{option_map}
use Rattle.std.specs.Str.{bytes_eq}
use Rattle.rule_tokens.specs.declared.refused.Bad.{Bad}
use Rattle.rule_tokens.specs.declared.refused.Bad.TheVariants.{Long, Utf8, Quote, Escape, Word, Arity, Place}
use Rattle.rule_tokens.specs.declared.token.Token.{Token}
use Rattle.ce_events.specs.declared.event.Answer.{Answer}
use Rattle.ce_events.specs.declared.event.Answer.TheVariants.{Node as NodeAnswer}
use Rattle.ce_events.specs.declared.event.Event.{Event}
use Rattle.ce_events.specs.declared.event.Event.TheVariants.{Fine, Gave, Answered, Ignored, Threw, WasBad}
use Rattle.event_reader.specs.Answers.{answer_of}
use Rattle.event_reader.specs.Parts.{fault_of}

abbrev pub bad_named : List ℕ → Option Bad
bad_named word =
    if bytes_eq word (codes "long") then Some Long
    else (if bytes_eq word (codes "utf8") then Some Utf8
    else (if bytes_eq word (codes "quote") then Some Quote
    else (if bytes_eq word (codes "escape") then Some Escape
    else (if bytes_eq word (codes "word") then Some Word
    else (if bytes_eq word (codes "arity") then Some Arity
    else (if bytes_eq word (codes "place") then Some Place
    else None))))))

abbrev pub was_bad_of : ℕ → List Token → Option Event
was_bad_of line (word ∷ []) = option_map (WasBad line) (bad_named word.text)
was_bad_of line ts = None

-- a node is given, another answer is what was asked
abbrev pub replied : ℕ → Answer → Event
replied line (NodeAnswer n) = Gave line n
replied line a = Answered line a

abbrev pub answered_of : ℕ → List Token → Option Event
answered_of line ts = option_map (replied line) (answer_of ts)

-- a word that is no answer
abbrev pub is_reply_word : List ℕ → Bool
is_reply_word word =
    bytes_eq word (codes "ok")
    || (bytes_eq word (codes "ignored")
    || (bytes_eq word (codes "throw") || bytes_eq word (codes "bad")))

abbrev pub reply_by : ℕ → List ℕ → List Token → Option Event
reply_by line word ts =
    if bytes_eq word (codes "ok") then Some (Fine line)
    else (if bytes_eq word (codes "ignored") then Some (Ignored line)
    else (if bytes_eq word (codes "throw") then option_map (Threw line) (fault_of ts)
    else (if bytes_eq word (codes "bad") then was_bad_of line ts
    else None)))

-- a word and what belongs to it, or an answer
abbrev pub reply_of : ℕ → List Token → Option Event
reply_of line [] = None
reply_of line (t ∷ ts) = if t.quoted || not (is_reply_word t.text) then answered_of line (t ∷ ts) else reply_by line t.text ts
