-- from the maps of a `SemFamily` to what it keeps
use Rattle.std.proofs.Common.{◌≡◌, ℕ, ◌==◌, Bool, true, false, cond, List, refl, sym, ap, ◌∙◌, Some}
use Rattle.std.specs.Option.{option_map}
use Rattle.std.proofs.lemmas.Bool.{eqb-true}
use Rattle.std.specs.FinMap.{get}
use Rattle.mea_base.specs.Named.{named, at, ChangesAt}
use Rattle.mea_base.proofs.NamedMaps.{found, kept-changed, named-same}
use Rattle.mea_sem.specs.declared.entries.SemaphoreEntry.{SemaphoreEntry}
use Rattle.mea_sem.specs.declared.entries.FutureEntry.{FutureEntry}
use Rattle.mea_sem.specs.declared.entries.PermitEntry.{PermitEntry}
use Rattle.mea_sem.specs.Store.{store_of}
use Rattle.mea_sem.proofs.PlaysSemaphores.{Puts}

abbrev pub Semaphores : Type 0
Semaphores = List (ℕ × SemaphoreEntry)

abbrev pub Futures : Type 0
Futures = List (ℕ × FutureEntry)

abbrev pub Permits : Type 0
Permits = List (ℕ × PermitEntry)

pub puts_of : (ss ss' : Semaphores) (fs : Futures) (ps ps' : Permits) (s : ℕ) (e v e' : SemaphoreEntry) → at ss s ≡ Some e
    → ChangesAt ss ss' s (Some v) → v ≡ e' → Puts (store_of ss fs ps) (store_of ss' fs ps') s e e'
puts_of ss ss' fs ps ps' s e v e' there changes is = record {
  there = found ss s e there;
  semaphores = λ q. kept-changed ss ss' s (Some v) changes q ∙ ap (λ x. cond (s == q) (Some x) (get (named (λ k x. x) ss) q)) is;
  futures = refl;
}

pub semaphores_of : (ss ss' : Semaphores) (s : ℕ) (v e' : SemaphoreEntry) → ChangesAt ss ss' s (Some v) → v ≡ e' → (q : ℕ)
    → get (named (λ k x. x) ss') q ≡ cond (s == q) (Some e') (get (named (λ k x. x) ss) q)
semaphores_of ss ss' s v e' changes is q = kept-changed ss ss' s (Some v) changes q ∙ ap (λ x. cond (s == q) (Some x) (get (named (λ k x. x) ss) q)) is

-- what is written at a name is what stood there
pub kept_same : {X Y : Type 0} (f : ℕ → X → Y) (old new : List (ℕ × X)) (k : ℕ) (x y : X) → at old k ≡ Some x → y ≡ x → ChangesAt old new k (Some y)
    → named f new ≡ named f old
kept_same {X} f old new k x y is same written = named-same f f new old (λ q. ap (option_map (f q)) (written q ∙ by_test q (k == q) refl))
  where
    by_test : (q : ℕ) (b : Bool) → (k == q) ≡ b → cond b (Some y) (at old q) ≡ at old q
    by_test q true e = ap (λ z. Some z) same ∙ sym is ∙ ap (at old) (eqb-true k q e)
    by_test q false e = refl
