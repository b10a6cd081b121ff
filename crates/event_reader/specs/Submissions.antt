-- What the line of a submission is read as.
use Rattle.std.specs.Prelude.{ℕ, codes, if◌then◌else◌, List, [], ◌∷◌, Option, Some, None}
use Rattle.std.specs.Option.{option_map}
use Rattle.std.specs.Str.{bytes_eq}
use Rattle.rule_tokens.specs.declared.token.Token.{Token}
use Rattle.ce_events.specs.declared.event.Cause.{Cause}
use Rattle.ce_events.specs.declared.event.Cause.TheVariants.{Disconnected as NotConnected, Invalid, Dialog, Url, Scheme, Size, Boundary}
use Rattle.ce_events.specs.declared.event.Event.{Event}
use Rattle.ce_events.specs.declared.event.Event.TheVariants.{SubmitGet, SubmitPost, SubmitBlocked}
use Rattle.event_reader.specs.Parts.{node_in, nodes_of}

abbrev pub get_of : ℕ → List Token → Option Event
get_of n (url ∷ []) = Some (SubmitGet n url.text)
get_of n ts = None

abbrev pub post_of : ℕ → List Token → Option Event
post_of n (url ∷ media ∷ body ∷ []) = Some (SubmitPost n url.text media.text body.text)
post_of n ts = None

abbrev pub cause_by : List ℕ → List Token → Option Cause
cause_by word ts =
    if bytes_eq word (codes "disconnected") then Some NotConnected
    else (if bytes_eq word (codes "invalid") then Some (Invalid (nodes_of ts))
    else (if bytes_eq word (codes "dialog") then Some Dialog
    else (if bytes_eq word (codes "url") then Some Url
    else (if bytes_eq word (codes "scheme") then Some Scheme
    else (if bytes_eq word (codes "size") then Some Size
    else (if bytes_eq word (codes "boundary") then Some Boundary
    else None))))))

abbrev pub cause_of : List Token → Option Cause
cause_of [] = None
cause_of (word ∷ ts) = cause_by word.text ts

abbrev pub submit_by : ℕ → List ℕ → List Token → Option Event
submit_by n word ts =
    if bytes_eq word (codes "get") then get_of n ts
    else (if bytes_eq word (codes "post") then post_of n ts
    else (if bytes_eq word (codes "blocked") then option_map (SubmitBlocked n) (cause_of ts)
    else None))

-- the form, a word, and what belongs to it
abbrev pub submit_of : List Token → Option Event
submit_of (n ∷ word ∷ ts) = submit_by (node_in n.text) word.text ts
submit_of ts = None
