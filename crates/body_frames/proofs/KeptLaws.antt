-- A body that goes on.
use Rattle.std.proofs.Common.{◌≡◌, ℕ, Bool, Option, Some, None, drop, ap, sym, ◌∙◌, subst}
use Rattle.rule_tokens.specs.declared.callback.CallName.{CallName}
use Rattle.ce_algorithms.specs.Body.{actions_of}
use Rattle.ce_algorithms.specs.Values.{Args}
use Rattle.ce_frames.specs.Places.{Behaviour, Place, Body}
use Rattle.class_bodies.specs.declared.next.Next.{Next}
use Rattle.class_bodies.specs.Next.{resumed_to, stop_of}
use Rattle.class_bodies.specs.Resume.{resumed}
use Rattle.body_frames.specs.Resumes.{FrameResumes, IsSameBody, is_guarded}

-- it is the same while what its class remembers changes
pub same_body : (k : ℕ) (p q : Place) (held : Option Behaviour) (b c : Behaviour) → held ≡ Some b → c.bodies ≡ b.bodies
    → IsSameBody (Body k p held) (Body k q (Some c))
same_body k p q None b c h e = absurd (let f : None ≡ Some b = h in cc)
same_body k p q (Some a) b c h e =
    let i : a ≡ b = cc in
    (q, c.memory, ap (λ l. Body k q (Some (record { bodies = l; memory = c.memory }))) (e ∙ sym (ap (λ (x : Behaviour). x.bodies) i)))

-- it has run where its behaviour has
module _ (k : ℕ) (call call' : CallName) (index index' : ℕ) (args : Args) (this : Option ℕ) (was now : Bool) (held : Option Behaviour) (b c : Behaviour)
    (is : held ≡ Some b) (bodies : c.bodies ≡ b.bodies) (same : call' ≡ call) where
  abbrev begun : Place
  begun = record { call = call; index = index; args = args; this = this; guarded = was }

  abbrev at : CallName → Bool → Place
  at call guarded = record { call = call; index = index'; args = args; this = this; guarded = guarded }

  pub has_run : (next : Next) (fuel fuel' : ℕ) → now ≡ is_guarded (stop_of next)
      → resumed_to next c.memory fuel' (drop index' (actions_of call' c.bodies)) ≡ resumed args (drop index (actions_of call b.bodies)) b.memory fuel
      → FrameResumes (Body k begun held) (Body k (at call' now) (Some c)) fuel fuel' next
  has_run next fuel fuel' guarded ran =
      subst (λ h. FrameResumes (Body k begun h) (Body k (at call' now) (Some c)) fuel fuel' next) (sym is) (record {
        index = index';
        memory = c.memory;
        frame = ap (λ x. Body k (at x now) (Some c)) same ∙ ap (λ g. Body k (at call g) (Some c)) guarded
            ∙ ap (λ l. Body k (at call (is_guarded (stop_of next))) (Some (record { bodies = l; memory = c.memory }))) bodies;
        ran = sym (ap (λ x. resumed_to next c.memory fuel' (drop index' (actions_of x c.bodies))) same
            ∙ ap (λ l. resumed_to next c.memory fuel' (drop index' (actions_of call l))) bodies) ∙ ran;
      })
