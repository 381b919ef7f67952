-- Counts of faults over several calls.
use Rattle.std.proofs.Common.{◌≡◌, ◌+◌, ◌≤◌, true, refl, ap, subst, ◌∙◌, arith}
use Rattle.pack_streams.specs.Faults.{FaultCount, Stays, FailedOnce}

-- a call that does nothing
pub stays_here : (a : FaultCount) → Stays a a
stays_here a = record { rising = omega arith; exact = λ e. refl }

pub stays_still : (a b : FaultCount) → b ≡ a → Stays a b
stays_still a b e = subst (λ n. Stays n b) e (stays_here b)

-- two calls, of which none failed
pub stays_on : (a b c : FaultCount) → Stays a b → Stays b c → Stays a c
stays_on a b c p q = record {
  rising = (let r = p.rising in let s = q.rising in omega (arith, r, s));
  exact = λ e. q.exact (ap (λ (f : FaultCount). f.is_exact) (p.exact e) ∙ e) ∙ p.exact e;
}

-- two calls, of which the second failed
pub fails_then : (a b c : FaultCount) → Stays a b → FailedOnce b c → FailedOnce a c
fails_then a b c p q = record {
  rose = (let r = p.rising in let s = q.rose in omega (arith, r, s));
  rising = (let r = p.rising in let s = q.rising in omega (arith, r, s));
  once = λ e. subst (λ (f : FaultCount). (c.count ≤ f.count + 1) × (c.is_exact ≡ true)) (p.exact e)
      (q.once (ap (λ (f : FaultCount). f.is_exact) (p.exact e) ∙ e));
}
