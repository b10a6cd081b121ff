-- What a line is read as.
use Rattle.std.specs.Prelude.{ℕ, nat_eq, codes, if◌then◌else◌, List, [], ◌∷◌, drop, length, Option, Some, None, Result, Ok}
use Rattle.std.specs.List.{starts_with}
use Rattle.std.specs.Option.{option_map}
use Rattle.std.specs.Str.{bytes_eq, is_utf8}
use Rattle.rule_tokens.specs.Tokens.{tokens_of}
use Rattle.rule_tokens.specs.declared.refused.Bad.{Bad}
use Rattle.rule_tokens.specs.declared.token.Token.{Token}
use Rattle.ce_events.specs.declared.event.Event.{Event}
use Rattle.ce_events.specs.declared.event.Event.TheVariants.{Construct, Logged, Caught, Reported, Asked, FuelLine}
use Rattle.event_reader.specs.Answers.{answer_of}
use Rattle.event_reader.specs.Calls.{call_of}
use Rattle.event_reader.specs.Parts.{begins_number, fault_of, number_in, texts_of}
use Rattle.event_reader.specs.Replies.{reply_of}
use Rattle.event_reader.specs.Submissions.{submit_of}
use Rattle.event_reader.specs.Traces.{trace_of}

-- the first word of a line that is no reply, and the tokens behind it
abbrev pub event_by : List ℕ → List Token → Option Event
event_by word ts =
    if bytes_eq word (codes "call") then call_of ts
    else (if bytes_eq word (codes "log") then Some (Logged (texts_of ts))
    else (if bytes_eq word (codes "caught") then option_map Caught (fault_of ts)
    else (if bytes_eq word (codes "report") then option_map Reported (fault_of ts)
    else (if bytes_eq word (codes "ask") then option_map Asked (answer_of ts)
    else (if bytes_eq word (codes "submit") then submit_of ts
    else (if bytes_eq word (codes "fuel") then Some FuelLine
    else (if bytes_eq word (codes "~") then trace_of ts
    else None)))))))

abbrev pub event_of : List Token → Option Event
event_of [] = None
event_of (t ∷ ts) = if begins_number t.text then reply_of (number_in t.text) ts else event_by t.text ts

abbrev pub event_in : Result (Option (List Token)) Bad → Option Event
event_in (Ok (Some ts)) = event_of ts
event_in read = None

-- the bytes behind the word of a constructor that starts
abbrev pub class_in : List ℕ → Option (List ℕ)
class_in bytes = if starts_with nat_eq bytes (codes "construct ") then (if is_utf8 (drop 10 bytes) then Some (drop 10 bytes) else None) else None

abbrev pub construct_or : Option (List ℕ) → Option Event → Option Event
construct_or None read = read
construct_or (Some class) read = Some (Construct class)

-- the event that the line must be, if it is one's
unfoldable pub guess : List ℕ → Option Event
guess bytes = construct_or (class_in bytes) (event_in (tokens_of (length bytes) bytes))
