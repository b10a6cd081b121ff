-- What the scripts for submissions log, without the trace.
use Rattle.std.specs.Prelude.{List, Some, None, [], codes, ◌∷◌}
use Rattle.ce_base.specs.declared.fault.Fault.TheVariants.{TypeError, NotFoundError}
use Rattle.ce_events.specs.declared.event.Cause.TheVariants.{Disconnected, Invalid, Scheme}
use Rattle.ce_events.specs.declared.event.Event.{Event}
use Rattle.ce_events.specs.declared.event.Event.TheVariants.{Attribute, Construct, Fine, FormReset, Gave, Ignored, SubmitBlocked, SubmitGet, SubmitPost, Threw}

-- a form that is submitted by a call, requested with submitters, and pressed; a call does not ask for validity
abbrev pub requests : List Event
requests =
    Gave 1 2
    ∷ Fine 2
    ∷ Gave 3 3
    ∷ Fine 4
    ∷ Gave 5 4
    ∷ Fine 6
    ∷ Fine 7
    ∷ Fine 8
    ∷ Gave 9 5
    ∷ Fine 10
    ∷ Fine 11
    ∷ Gave 12 6
    ∷ Fine 13
    ∷ SubmitGet 3 (codes "http://page.test/?a=&a=")
    ∷ Fine 14
    ∷ SubmitBlocked 3 (Invalid (4 ∷ []))
    ∷ Fine 15
    ∷ Fine 16
    ∷ SubmitGet 3 (codes "http://page.test/?a=&a=")
    ∷ Fine 17
    ∷ Threw 18 TypeError
    ∷ Fine 19
    ∷ SubmitGet 3 (codes "http://page.test/?a=x&a=")
    ∷ Fine 20
    ∷ Fine 21
    ∷ Threw 22 NotFoundError
    ∷ Fine 23
    ∷ Ignored 24
    ∷ Fine 25
    ∷ SubmitBlocked 3 Disconnected
    ∷ Fine 26
    ∷ Threw 27 TypeError
    ∷ []

-- a callback that changes what its element submits, and submits the form; the button, and the one that resets
abbrev pub within : List Event
within =
    Fine 9
    ∷ Gave 10 2
    ∷ Fine 11
    ∷ Gave 12 3
    ∷ Fine 13
    ∷ Fine 14
    ∷ Construct (codes "A")
    ∷ Gave 15 4
    ∷ Fine 16
    ∷ Fine 17
    ∷ Gave 18 5
    ∷ Fine 19
    ∷ Fine 20
    ∷ Gave 21 6
    ∷ Fine 22
    ∷ Fine 23
    ∷ Attribute 4 (codes "k") None (Some (codes "1"))
    ∷ SubmitPost 3 (codes "http://page.test/") (codes "application/x-www-form-urlencoded") (codes "e=1")
    ∷ Fine 24
    ∷ Attribute 4 (codes "k") (Some (codes "1")) (Some (codes "2"))
    ∷ SubmitPost 3 (codes "http://page.test/") (codes "application/x-www-form-urlencoded") (codes "e=2")
    ∷ Fine 25
    ∷ SubmitPost 3 (codes "http://page.test/") (codes "application/x-www-form-urlencoded") (codes "e=2&go=")
    ∷ Fine 26
    ∷ FormReset 4
    ∷ Fine 27
    ∷ SubmitPost 3 (codes "http://page.test/") (codes "application/x-www-form-urlencoded") (codes "e=none&go=")
    ∷ Fine 28
    ∷ Fine 29
    ∷ SubmitBlocked 3 Scheme
    ∷ Fine 30
    ∷ []
