-- How a call of the page says the end of a step of the definitions.
use Rattle.std.specs.Prelude.{◌≡◌, ℕ, Result, Ok, Err, ⊤}
use Rattle.ce_algorithms.specs.Steps.{Outcome, Goes, Throws, Spent}
use Rattle.ce_algorithms.specs.Page.{Page, Work}
use Rattle.ce_page.specs.declared.stop.PageStop.{PageStop}
use Rattle.ce_page.specs.declared.stop.PageStop.TheVariants.{Refused, FuelSpent, NoMemory}

-- the end is that of the step, unless memory was refused
abbrev pub Ends : {S A B : Type 0} → (A → B) → Result A PageStop → S → Outcome S B → Type 0
Ends answer (Ok a) s o = Goes (answer a) s ≡ o
Ends answer (Err (Refused f)) s o = Throws f s ≡ o
Ends answer (Err FuelSpent) s o = Spent s ≡ o
Ends answer (Err NoMemory) s o = ⊤

-- the same of a step that gives nothing
abbrev pub Does : {S A : Type 0} → Result A PageStop → S → Outcome S (Unit {0}) → Type 0
Does result s o = Ends (λ _. tt) result s o

-- a refusal left the page as it was
abbrev pub Keeps : {A : Type 0} → Result A PageStop → Page → Page → Type 0
Keeps (Ok a) old new = ⊤
Keeps (Err (Refused f)) old new = new ≡ old
Keeps (Err FuelSpent) old new = ⊤
Keeps (Err NoMemory) old new = ⊤

-- the call did not refuse
abbrev pub NeverRefuses : {A : Type 0} → Result A PageStop → Type 0
NeverRefuses (Ok a) = ⊤
NeverRefuses (Err (Refused f)) = ⊥
NeverRefuses (Err FuelSpent) = ⊤
NeverRefuses (Err NoMemory) = ⊤

-- a page with the fuel that is left
abbrev pub work : Page → ℕ → Work
work page fuel = record { page = page; fuel = fuel }
