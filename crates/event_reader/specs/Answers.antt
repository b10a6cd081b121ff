-- What the tokens of an answer are read as.
use Rattle.std.specs.Prelude.{ℕ, true, false, codes, if◌then◌else◌, List, [], ◌∷◌, Option, Some, None}
use Rattle.std.specs.Str.{bytes_eq}
use Rattle.ce_base.specs.declared.custom_state.CustomState.{CustomState}
use Rattle.ce_base.specs.declared.custom_state.CustomState.TheVariants.{Undefined, Failed, Uncustomized, Precustomized, Custom}
use Rattle.rule_tokens.specs.Flags.{raised}
use Rattle.rule_tokens.specs.declared.token.Token.{Token}
use Rattle.ce_events.specs.declared.event.Answer.{Answer}
use Rattle.ce_events.specs.declared.event.Answer.TheVariants.{Null, One, Many, Node as NodeAnswer, Nodes, Texts, State, Truth, Raised}
use Rattle.event_reader.specs.Parts.{begins_node, node_in, nodes_of, texts_of}

abbrev pub state_named : List ℕ → Option CustomState
state_named word =
    if bytes_eq word (codes "undefined") then Some Undefined
    else (if bytes_eq word (codes "failed") then Some Failed
    else (if bytes_eq word (codes "uncustomized") then Some Uncustomized
    else (if bytes_eq word (codes "precustomized") then Some Precustomized
    else (if bytes_eq word (codes "custom") then Some Custom
    else None))))

abbrev pub state_answer : Option CustomState → Option Answer
state_answer None = None
state_answer (Some state) = Some (State state)

-- an answer of one word that is no node, no flag's name and not `valid`
abbrev pub answer_named : List ℕ → Option Answer
answer_named word =
    if bytes_eq word (codes "null") then Some Null
    else (if bytes_eq word (codes "list") then Some Many
    else (if bytes_eq word (codes "empty") then Some (Nodes [])
    else (if bytes_eq word (codes "yes") then Some (Truth true)
    else (if bytes_eq word (codes "no") then Some (Truth false)
    else state_answer (state_named word)))))

-- the flags whose names these are
abbrev pub flags_answer : List Token → Answer
flags_answer ts = Raised (record { 0 = raised (texts_of ts) })

abbrev pub or_flags : Option Answer → List Token → Answer
or_flags None ts = flags_answer ts
or_flags (Some a) ts = a

-- a text, or texts
abbrev pub texts_answer : List Token → Answer
texts_answer (t ∷ []) = One t.text
texts_answer ts = Texts (texts_of ts)

-- a node, or nodes
abbrev pub nodes_answer : List Token → Answer
nodes_answer (t ∷ []) = NodeAnswer (node_in t.text)
nodes_answer ts = Nodes (nodes_of ts)

abbrev pub answer_of : List Token → Option Answer
answer_of [] = None
answer_of (t ∷ ts) =
    if t.quoted then Some (texts_answer (t ∷ ts))
    else (if begins_node t.text then Some (nodes_answer (t ∷ ts))
    else Some (or_flags (answer_named t.text) (t ∷ ts)))
