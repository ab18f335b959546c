-- one semaphore is another now, and all others are as they were
use Rattle.std.proofs.Common.{◌≡◌, ℕ, ◌==◌, cond, refl, ap, sym, subst, ◌∙◌, Some}
use Rattle.std.specs.FinMap.{get}
use Rattle.mea_base.proofs.Maps.{inside}
use Rattle.mea_base.proofs.Tests.{at_same, at_apart, by_name}
use Rattle.mea_sem_core.specs.Calls.{Belongs}
use Rattle.mea_sem.specs.declared.entries.SemaphoreEntry.{SemaphoreEntry}
use Rattle.mea_sem.specs.declared.entries.FutureEntry.{FutureEntry}
use Rattle.mea_sem.specs.Store.{Store, IsHome, IsOwned}

module _ (st st' : Store) (s : ℕ) (e' : SemaphoreEntry) (semaphores : (q : ℕ) → get st'.semaphores q ≡ cond (s == q) (Some e') (get st.semaphores q)) where
  pub semaphore_there : get st'.semaphores s ≡ Some e'
  semaphore_there = semaphores s ∙ at_same s s (Some e') (get st.semaphores s) refl

  pub semaphore_other : (q : ℕ) → (s ≡ q → ⊥) → get st'.semaphores q ≡ get st.semaphores q
  semaphore_other q apart = semaphores q ∙ at_apart s q (Some e') (get st.semaphores q) apart

  -- what holds of it now, and of each other, holds of all
  pub each_semaphore : (P : ℕ → SemaphoreEntry → Type 0) → P s e' → ((q : ℕ) (d : SemaphoreEntry) → (s ≡ q → ⊥) → get st.semaphores q ≡ Some d → P q d)
      → (q : ℕ) (d : SemaphoreEntry) → get st'.semaphores q ≡ Some d → P q d
  each_semaphore P now others q d is = by_name s q
      (λ same. let one : e' ≡ d = inside (sym semaphore_there ∙ ap (get st'.semaphores) same ∙ is) in
      subst (λ k. P k d) same (subst (P s) one now))
      (λ apart. others q d apart (sym (semaphore_other q apart) ∙ is))

  -- a future stays at home where its semaphore keeps it
  pub home_still : {e : SemaphoreEntry} → get st.semaphores s ≡ Some e → (y : FutureEntry) → IsHome st y
      → (s ≡ y.semaphore → Belongs e.core y.acquire → Belongs e'.core y.acquire) → IsHome st' y
  home_still {e} there y old keeps = by_name s y.semaphore
      (λ mine. let one : old.entry ≡ e = inside (sym old.there ∙ ap (get st.semaphores) (sym mine) ∙ there) in
      record {
        entry = e';
        there = ap (get st'.semaphores) (sym mine) ∙ semaphore_there;
        belongs = keeps mine (subst (λ (d : SemaphoreEntry). Belongs d.core y.acquire) one old.belongs);
        open_still = old.open_still;
      })
      (λ apart. record { entry = old.entry; there = semaphore_other y.semaphore apart ∙ old.there; belongs = old.belongs; open_still = old.open_still })

-- ---- where no future changes
module _ (st st' : Store) (futures : st'.futures ≡ st.futures) where
  pub future_back : (g : ℕ) (y : FutureEntry) → get st'.futures g ≡ Some y → get st.futures g ≡ Some y
  future_back g y is = ap (λ m. get m g) (sym futures) ∙ is

  pub owned_on : (q n d : ℕ) → IsOwned st q n d → IsOwned st' q n d
  owned_on q n d w = record { name = w.name; entry = w.entry; there = ap (λ m. get m w.name) futures ∙ w.there; semaphore = w.semaphore; acquire = w.acquire }
