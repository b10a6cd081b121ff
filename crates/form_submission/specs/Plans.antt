-- What a submission sends, or what blocks it (HTML Standard, section "Form submission algorithm").
use Rattle.std.specs.Prelude.{ℕ, ◌+◌, Bool, not, ◌||◌, ◌==◌, if◌then◌else◌, List, [], ◌∷◌, ◌++◌}
use Rattle.std.specs.Prelude.{codes, bytes_eq, length, sum_by, nat_lt, Option, Some, None, Ok, Err}
use Rattle.ce_base.specs.declared.entries.Entry.{Entry}
use Rattle.url.specs.Parser.{Parsed, and_then, parse_url}
use Rattle.url.specs.Parts.{Parts, serialize}
use Rattle.url.specs.Setters.{set_query}
use Rattle.node_trees.specs.Trees.{Trees}
use Rattle.node_trees.specs.Paths.{shadow_including_root_at}
use Rattle.form_controls.specs.declared.control.Control.{Control}
use Rattle.form_controls.specs.declared.internals.Internals.{Internals}
use Rattle.form_controls.specs.Owners.{Forms}
use Rattle.form_controls.specs.Texts.{is_empty}
use Rattle.form_controls.specs.Validity.{invalid_controls}
use Rattle.form_submission.specs.declared.plan.Plan.{Plan}
use Rattle.form_submission.specs.declared.plan.Plan.TheVariants.{Get, Post, Blocked}
use Rattle.form_submission.specs.declared.plan.Why.TheVariants.{Disconnected, Invalid, Dialog, Url, Scheme, Size, Boundary}
use Rattle.form_submission.specs.Attributes.{Method, GetMethod, PostMethod, DialogMethod, method_of, action_of}
use Rattle.form_submission.specs.Attributes.{Encoding, Urlencoded, Multipart, PlainText, encoding_of, is_unvalidated}
use Rattle.form_submission.specs.EntryList.{entry_list}
use Rattle.form_submission.specs.Encodings.{urlencoded, plain, multipart, is_broken_by}

-- where it goes

-- the page's own URL for an empty action; another action is parsed against it
abbrev pub action_url : List ℕ → List ℕ → Parsed Parts
action_url page action = and_then (parse_url None page) (λ base. if is_empty action then Ok base else parse_url (Some base) action)

abbrev pub is_web : Parts → Bool
is_web url = bytes_eq url.scheme (codes "http") || bytes_eq url.scheme (codes "https")

-- how large it is

abbrev pub entry_size : Entry → ℕ
entry_size e = length e.name + length e.value + 1

abbrev pub is_too_large : List Entry → Bool
is_too_large entries = nat_lt 16777216 (sum_by entry_size entries)

-- what is sent

-- "mutate action URL": the query is replaced, the fragment stays
abbrev pub get : List Entry → Parts → Plan
get entries url = Get (serialize (set_query url (Some (urlencoded entries))))

-- "submit as entity body"
abbrev pub post : List ℕ → Encoding → List Entry → Parts → Plan
post boundary Urlencoded entries url = Post (serialize url) (codes "application/x-www-form-urlencoded") (urlencoded entries)
post boundary PlainText entries url = Post (serialize url) (codes "text/plain") (plain entries)
post boundary Multipart entries url =
    if is_broken_by entries boundary then Blocked Boundary
    else Post (serialize url) (codes "multipart/form-data; boundary=" ++ boundary) (multipart entries boundary)

-- to a URL that parsed, of the web, what is not too large
abbrev pub send_to : (Parts → Plan) → List Entry → Parsed Parts → Plan
send_to send entries (Err e) = Blocked Url
send_to send entries (Ok url) =
    if not (is_web url) then Blocked Scheme
    else if is_too_large entries then Blocked Size
    else send url

abbrev pub send_by : Method → Encoding → List ℕ → List Entry → Parsed Parts → Plan
send_by DialogMethod encoding boundary entries url = Blocked Dialog
send_by GetMethod encoding boundary entries url = send_to (get entries) entries url
send_by PostMethod encoding boundary entries url = send_to (post boundary encoding entries) entries url

-- whether it is sent

-- the controls for whose sake nothing is sent: by a call of `submit`, and where the controls are not validated, none
abbrev pub hindering : Forms → List Control → List (Option Internals) → ℕ → Option ℕ → Bool → List ℕ
hindering f controls internals form submitter by_call =
    if by_call || is_unvalidated f.forest form submitter then [] else invalid_controls f controls internals form

abbrev pub unless_hindered : List ℕ → Plan → Plan
unless_hindered [] plan = plan
unless_hindered (n ∷ ns) plan = Blocked (Invalid (n ∷ ns))

-- the form is in the page's document, or in a shadow tree of it
abbrev pub is_in_page : Trees → ℕ → Bool
is_in_page forest form = shadow_including_root_at forest form == 1

-- what a submission sends, or the first of what blocks it. The page is a URL; by_call: it comes by `submit`, not by the user or `requestSubmit`
abbrev pub plan : Forms → List Control → List (Option Internals) → List ℕ → List ℕ → ℕ → Option ℕ → Bool → Plan
plan f controls internals page boundary form submitter by_call =
    if not (is_in_page f.forest form) then Blocked Disconnected
    else unless_hindered (hindering f controls internals form submitter by_call)
    (send_by (method_of f.forest form submitter) (encoding_of f.forest form submitter) boundary
    (entry_list f controls internals form submitter) (action_url page (action_of f.forest form submitter)))
