-- which future a number of a core names
use Rattle.std.proofs.Common.{◌≡◌, ℕ, zero, suc, ◌<◌, Bool, true, false, cond, [], ◌∷◌, refl, ap, sym, ◌∙◌, arith, Option, Some, None, inl, inr}
use Rattle.std.specs.List.{AllByRecursion}
use Rattle.std.specs.Ordering.{nat_cmp}
use Rattle.std.specs.FinMap.{FinMap, get}
use Rattle.std.proofs.lemmas.Bool.{eqb-true, eq-eqb, and_from, and_parts, cases_eq}
use Rattle.mea_sem_core.specs.declared.acquire.Acquire.{Acquire}
use Rattle.mea_sem_core.specs.declared.acquire.Acquire.TheVariants.{Queued}
use Rattle.mea_sem.specs.declared.entries.FutureEntry.{FutureEntry}
use Rattle.mea_sem.specs.Store.{Store, is_under, has, name_of, who_of, queue_of, IsOwned, IsLinked}
use Rattle.mea_sem.proofs.Cores.{Queue}

-- ---- the search for a name
pub name_of-found : (m : FinMap nat_cmp FutureEntry) (b s n f : ℕ) → f < b → has s n (get m f) ≡ true → ((g : ℕ) → has s n (get m g) ≡ true → g ≡ f)
    → name_of m b s n ≡ f
name_of-found m zero s n f below here only = absurd (omega arith)
name_of-found m (suc b) s n f below here only = by_test (has s n (get m b)) refl (λ small. name_of-found m b s n f small here only)
  where
    by_test : (t : Bool) → has s n (get m b) ≡ t → (f < b → name_of m b s n ≡ f) → cond t b (name_of m b s n) ≡ f
    by_test true h rest = only b h
    by_test false h rest = elim (cases_eq f b) [
      | inl same ↦ absurd (let there : has s n (get m b) ≡ true = ap (λ k. has s n (get m k)) (sym same) ∙ here in cc)
      | inr differs ↦ rest (omega arith)
    ]

-- the parts of a future that has a number
pub has-parts : (s n : ℕ) (o : Option FutureEntry) → has s n o ≡ true → (x : FutureEntry) × (o ≡ Some x) × (x.semaphore ≡ s) × (is_under x.acquire n ≡ true)
has-parts s n None h = absurd (cc)
has-parts s n (Some x) h = let parts = and_parts _ _ h in (x, refl, eqb-true _ _ parts.0, parts.1)

pub has-from : (s n : ℕ) (o : Option FutureEntry) (x : FutureEntry) → o ≡ Some x → x.semaphore ≡ s → is_under x.acquire n ≡ true → has s n o ≡ true
has-from s n o x is mine under = ap (has s n) is ∙ and_from _ _ (eq-eqb _ _ mine) under

pub under-queued : (a : Acquire) (d n : ℕ) → a ≡ Queued d n → is_under a n ≡ true
under-queued a d n is = ap (λ x. is_under x n) is ∙ eq-eqb n n refl

-- the future that has the number
pub owner_has : (st : Store) (s n d : ℕ) (o : IsOwned st s n d) → has s n (get st.futures o.name) ≡ true
owner_has st s n d o = has-from s n (get st.futures o.name) o.entry o.there o.semaphore (under-queued o.entry.acquire d n o.acquire)

pub only_owner : (st : Store) (b s n f g : ℕ) → IsLinked st b → has s n (get st.futures f) ≡ true → has s n (get st.futures g) ≡ true → g ≡ f
only_owner st b s n f g linked here there =
    let x = has-parts s n (get st.futures f) here in
    let y = has-parts s n (get st.futures g) there in
    linked.apart g f n y.0 x.0 y.1 x.1 (y.2 ∙ sym x.2) y.3 x.3

pub name-has : (st : Store) (b s n f : ℕ) → IsLinked st b → has s n (get st.futures f) ≡ true → name_of st.futures b s n ≡ f
name-has st b s n f linked here =
    let x = has-parts s n (get st.futures f) here in
    name_of-found st.futures b s n f (linked.below f x.0 x.1) here (λ g there. only_owner st b s n f g linked here there)

pub name-owner : (st : Store) (b s n d : ℕ) → IsLinked st b → (o : IsOwned st s n d) → name_of st.futures b s n ≡ o.name
name-owner st b s n d linked o = name-has st b s n o.name linked (owner_has st s n d o)

-- ---- queues under names that stay
pub queue_of-same : (m k : FinMap nat_cmp FutureEntry) (b c s : ℕ) (q : Queue) → AllByRecursion (λ e. who_of k c s e.0 ≡ who_of m b s e.0) q
    → queue_of k c s q ≡ queue_of m b s q
queue_of-same m k b c s [] h = refl
queue_of-same m k b c s (e ∷ q) h = (λ i. (h.0 i, e.1) ∷ queue_of-same m k b c s q h.1 i)
