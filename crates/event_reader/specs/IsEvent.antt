-- What an event of a program is: a number is below 2^64, a text is UTF-8, there are ten validity flags.
use Rattle.std.specs.Prelude.{◌≡◌, ◌<◌, ◌^◌, ℕ, List, [], ◌∷◌, length, Option, Some, None}
use Rattle.std.specs.Str.{IsUtf8}
use Rattle.ce_base.specs.declared.fault.Fault.{Fault}
use Rattle.ce_base.specs.declared.fault.Fault.TheVariants.{UserThrow}
use Rattle.ce_events.specs.declared.event.Answer.{Answer}
use Rattle.ce_events.specs.declared.event.Answer.TheVariants.{Null, One, Many, Node as NodeAnswer, Nodes, Texts, State, Truth, Raised}
use Rattle.ce_events.specs.declared.event.Cause.{Cause}
use Rattle.ce_events.specs.declared.event.Cause.TheVariants.{Invalid}
use Rattle.ce_events.specs.declared.event.Event.{Event}
use Rattle.ce_events.specs.declared.event.Event.TheVariants.{Construct, Connected, Disconnected, Adopted, Attribute}
use Rattle.ce_events.specs.declared.event.Event.TheVariants.{FormAssociated, FormDisabled, FormReset, FormStateRestore, Logged, Caught}
use Rattle.ce_events.specs.declared.event.Event.TheVariants.{Reported, Asked, SubmitGet, SubmitPost, SubmitBlocked}
use Rattle.ce_events.specs.declared.event.Event.TheVariants.{Fine, Gave, Answered, Ignored, Threw, WasBad}
use Rattle.ce_events.specs.declared.event.Event.TheVariants.{FuelLine, QueueOpened, Enqueued, DrainBegun, Started, Finished}
use Rattle.ce_events.specs.declared.event.Event.TheVariants.{Dropped, QueueClosed, UpgradeBegun, UpgradeDone, UpgradeThrew}
use Rattle.ce_events.specs.Text.{event_text}

abbrev pub IsNumber : ℕ → Type 0
IsNumber n = n < 2 ^ 64

abbrev pub AreNumbers : List ℕ → Type 0
AreNumbers [] = Unit {0}
AreNumbers (n ∷ ns) = IsNumber n × AreNumbers ns

abbrev pub IsNumberOrNone : Option ℕ → Type 0
IsNumberOrNone None = Unit {0}
IsNumberOrNone (Some n) = IsNumber n

abbrev pub AreTexts : List (List ℕ) → Type 0
AreTexts [] = Unit {0}
AreTexts (text ∷ texts) = IsUtf8 text × AreTexts texts

abbrev pub IsTextOrNone : Option (List ℕ) → Type 0
IsTextOrNone None = Unit {0}
IsTextOrNone (Some text) = IsUtf8 text

abbrev pub IsFault : Fault → Type 0
IsFault (UserThrow text) = IsUtf8 text
IsFault f = Unit {0}

abbrev pub IsCause : Cause → Type 0
IsCause (Invalid ns) = AreNumbers ns
IsCause why = Unit {0}

abbrev pub IsAnswer : Answer → Type 0
IsAnswer Null = Unit {0}
IsAnswer (One text) = IsUtf8 text
IsAnswer Many = Unit {0}
IsAnswer (NodeAnswer n) = IsNumber n
IsAnswer (Nodes ns) = AreNumbers ns
IsAnswer (Texts texts) = AreTexts texts
IsAnswer (State s) = Unit {0}
IsAnswer (Truth b) = Unit {0}
IsAnswer (Raised flags) = length flags.0 ≡ 10

abbrev pub IsEvent : Event → Type 0
IsEvent (Construct class) = IsUtf8 class
IsEvent (Connected n) = IsNumber n
IsEvent (Disconnected n) = IsNumber n
IsEvent (Adopted n old new) = IsNumber n × IsNumber old × IsNumber new
IsEvent (Attribute n name old new) = IsNumber n × IsUtf8 name × IsTextOrNone old × IsTextOrNone new
IsEvent (FormAssociated n form) = IsNumber n × IsNumberOrNone form
IsEvent (FormDisabled n disabled) = IsNumber n
IsEvent (FormReset n) = IsNumber n
IsEvent (FormStateRestore n text why) = IsNumber n × IsUtf8 text
IsEvent (Logged texts) = AreTexts texts
IsEvent (Caught f) = IsFault f
IsEvent (Reported f) = IsFault f
IsEvent (Asked a) = IsAnswer a
IsEvent (SubmitGet n url) = IsNumber n × IsUtf8 url
IsEvent (SubmitPost n url media body) = IsNumber n × IsUtf8 url × IsUtf8 media × IsUtf8 body
IsEvent (SubmitBlocked n why) = IsNumber n × IsCause why
IsEvent (Fine line) = IsNumber line
IsEvent (Gave line n) = IsNumber line × IsNumber n
IsEvent (Answered line a) = IsNumber line × IsAnswer a
IsEvent (Ignored line) = IsNumber line
IsEvent (Threw line f) = IsNumber line × IsFault f
IsEvent (WasBad line bad) = IsNumber line
IsEvent FuelLine = Unit {0}
IsEvent (QueueOpened q) = IsNumber q
IsEvent (Enqueued r n what q) = IsNumber r × IsNumber n × IsNumber q
IsEvent (DrainBegun q) = IsNumber q
IsEvent (Started r) = IsNumber r
IsEvent (Finished r) = IsNumber r
IsEvent (Dropped r) = IsNumber r
IsEvent (QueueClosed q) = IsNumber q
IsEvent (UpgradeBegun n) = IsNumber n
IsEvent (UpgradeDone n) = IsNumber n
IsEvent (UpgradeThrew n) = IsNumber n

-- no event has this text
abbrev pub IsNoText : List ℕ → Type 0
IsNoText bytes = (e : Event) → IsEvent e → event_text e ≡ bytes → ⊥
