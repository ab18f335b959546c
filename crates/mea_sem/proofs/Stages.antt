-- the stage under a number of a core
use Rattle.std.proofs.Common.{◌≡◌, ℕ, refl, ap, sym, ◌∙◌, Option, Some, None}
use Rattle.std.specs.FinMap.{get}
use Rattle.mea_sem_model.specs.Hall.{Waiting, Granted, Cut}
use Rattle.mea_sem_core.specs.declared.acquire.Acquire.TheVariants as acquires
use Rattle.mea_sem_core.specs.Core as cores
use Rattle.mea_sem.specs.Store.{stage_of, stage_under, IsNumbered}
use Rattle.mea_sem.proofs.Cores.{waker-none, waker-some}

module _ (c : cores.Core ℕ) (numbered : IsNumbered c) where
  -- what was granted does not wait, and is not cut
  pub granted_idle : (d n : ℕ) → get c.granted n ≡ Some d → cores.waiting c.queue n ≡ None
  granted_idle d n is = by_option (cores.waiting c.queue n) refl
    where
      by_option : (o : Option (ℕ × ℕ)) → cores.waiting c.queue n ≡ o → cores.waiting c.queue n ≡ None
      by_option None h = h
      by_option (Some p) h = absurd
          (let none : get c.granted n ≡ None = numbered.granted_apart n (λ t. absurd (let no : Some p ≡ None = sym h ∙ t in cc)) in cc)

  pub granted_uncut : (d n : ℕ) → get c.granted n ≡ Some d → get c.cut n ≡ None
  granted_uncut d n is = by_option (get c.cut n) refl
    where
      by_option : (o : Option ℕ) → get c.cut n ≡ o → get c.cut n ≡ None
      by_option None h = h
      by_option (Some z) h = absurd
          (let none : get c.granted n ≡ None = (numbered.cut_apart n (λ t. absurd (let no : Some z ≡ None = sym h ∙ t in cc))).1 in cc)

  -- what is cut neither waits nor was granted
  pub cut_idle : (d n : ℕ) → get c.cut n ≡ Some d → (cores.waiting c.queue n ≡ None) × (get c.granted n ≡ None)
  cut_idle d n is = numbered.cut_apart n (λ t. absurd (let no : Some d ≡ None = sym is ∙ t in cc))

  pub stage_granted : (d n : ℕ) → get c.granted n ≡ Some d → stage_of (acquires.Queued d n) c ≡ Granted
  stage_granted d n is = λ i. stage_under (waker-none c.queue n (granted_idle d n is) i) (granted_uncut d n is i)

  pub stage_cut : (d n : ℕ) → get c.cut n ≡ Some d → stage_of (acquires.Queued d n) c ≡ Cut
  stage_cut d n is = λ i. stage_under (waker-none c.queue n (cut_idle d n is).0 i) (is i)

  pub stage_waits : (d n l : ℕ) → cores.waiting c.queue n ≡ Some (d, l) → (w : ℕ) × (stage_of (acquires.Queued d n) c ≡ Waiting w)
  stage_waits d n l is = let w = waker-some c.queue n (d, l) is in (w.0, ap (λ o. stage_under o (get c.cut n)) w.1)
