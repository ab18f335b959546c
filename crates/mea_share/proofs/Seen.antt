-- what is seen of the keys of a core, after a change
use Rattle.std.proofs.Common.{◌≡◌, ℕ, ◌+◌, ◌==◌, ◌&&◌, ◌++◌, inl, inr, Bool, true, false, not, cond, List, [], ◌∷◌, Option, Some, None, unwrap_or, nat_eq, if◌then◌else◌, refl, ap, sym, subst, ◌∙◌, arith}
use Rattle.std.specs.Ordering.{nat_cmp}
use Rattle.std.specs.Map.{lookup}
use Rattle.std.specs.FinMap.{get, insert, remove, empty, get-empty, get-retain_keys, nat_cmp-IsAntisymmetric, len, len-empty}
use Rattle.std.proofs.lemmas.Bool.{cases_lt}
use Rattle.mea_base.proofs.NamedMaps.{kept-at, same_named}
use Rattle.mea_base.proofs.Totals.{get_inserted, get_removed}
use Rattle.mea_by_name.specs.ByName.{kept}
use Rattle.mea_share_core.specs.Share.{Share, new_share, waiting_of, IsWaiting, admitting}
use Rattle.mea_base.proofs.Maps.{is_there, value_in}
use Rattle.mea_by_name.proofs.Own.{len-some}
use Rattle.mea_share_core.specs.Groups.{share_in, waiting_in, IsAlike, IsBefore, Sets, IsNextOf}
use Rattle.mea_share_core.specs.Fair.{Fair, PassesOn, waiters_of}
use Rattle.mea_share_model.specs.Next as model
use Rattle.mea_share_model.specs.Next.{Waiter, share_at, is_idle, put_share, next_of}
use Rattle.mea_share_model.specs.Admissions.{Admission, passed, woken}
use Rattle.mea_share_model.proofs.Waiting.{waiting_put, share_waits, idle_new, next_found, nobody_next}
use Rattle.mea_share.specs.Kept.{shares_seen}

-- what a key has, unless nothing is left of it
abbrev left : Share ℕ → Option (Share ℕ)
left s = cond (not (is_idle s)) (Some s) None

new_idle : is_idle (new_share {W = ℕ}) ≡ true
new_idle = at (len (empty {X = Unit {0}} {R = nat_cmp})) (len (empty {X = ℕ} {R = nat_cmp})) (len-empty nat_cmp (Unit {0})) (len-empty nat_cmp ℕ)
  where
    at : (a b : ℕ) → a ≡ 0 → b ≡ 0 → (1 == 1) && (0 + a + b == 0) ≡ true
    at a b first second = ap (λ n. (1 == 1) && (0 + n + b == 0)) first ∙ ap (λ n. (1 == 1) && (0 + 0 + n == 0)) second

left_new : left (new_share {W = ℕ}) ≡ None
left_new = ap (λ b. cond (not b) (Some (new_share {W = ℕ})) None) new_idle

-- what stands at a key, if something is left of it
pub get-shares_seen : (es : List (ℕ × Share ℕ)) (q : ℕ) → get (shares_seen es) q ≡ left (share_in nat_eq es q)
get-shares_seen es q =
    get-retain_keys (kept es) (λ k. not (is_idle (share_in nat_eq es k))) q (λ x tie. ap (λ k. not (is_idle (share_in nat_eq es k))) (sym (nat_cmp-IsAntisymmetric q x tie)))
    ∙ ap (cond (not (is_idle (share_in nat_eq es q))) (get (kept es) q)) refl ∙ ap (λ o. cond (not (is_idle (share_in nat_eq es q))) o None) (kept-at es q)
    ∙ by_value (lookup (nat_eq q) es)
  where
    by_value : (o : Option (Share ℕ)) → cond (not (is_idle (unwrap_or o new_share))) o None ≡ left (unwrap_or o new_share)
    by_value None = none (is_idle (new_share {W = ℕ})) ∙ sym left_new
      where
        none : (b : Bool) → ◌≡◌ {A = Option (Share ℕ)} (cond (not b) None None) None
        none true = refl
        none false = refl
    by_value (Some s) = refl

-- a key is seen to have what it has
pub share_seen : (es : List (ℕ × Share ℕ)) (k : ℕ) → share_at (shares_seen es) k ≡ share_in nat_eq es k
share_seen es k = ap (λ o. unwrap_or o new_share) (get-shares_seen es k) ∙ by_test (is_idle (share_in nat_eq es k)) refl
  where
    by_test : (b : Bool) → is_idle (share_in nat_eq es k) ≡ b → unwrap_or (cond (not b) (Some (share_in nat_eq es k)) None) new_share ≡ share_in nat_eq es k
    by_test true idle = sym (idle_new (share_in nat_eq es k) idle)
    by_test false idle = refl

-- keys that have the same are seen alike
pub alike_seen : (es es' : List (ℕ × Share ℕ)) → ((k : ℕ) → share_in nat_eq es' k ≡ share_in nat_eq es k) → shares_seen es' ≡ shares_seen es
alike_seen es es' same = same_named (shares_seen es') (shares_seen es) (λ q. get-shares_seen es' q ∙ ap left (same q) ∙ sym (get-shares_seen es q))

-- a key has something else
pub sets_seen : (es es' : List (ℕ × Share ℕ)) (k : ℕ) (s : Share ℕ) → Sets nat_eq es es' k s → shares_seen es' ≡ put_share (shares_seen es) k s
sets_seen es es' k s sets = same_named (shares_seen es') (put_share (shares_seen es) k s) (λ q.
    get-shares_seen es' q ∙ ap left (sets.shares q) ∙ by_test q (k == q) ∙ ap (cond (k == q) (left s)) (sym (get-shares_seen es q)) ∙ sym (put q (is_idle s) refl))
  where
    by_test : (q : ℕ) (b : Bool) → left (cond b s (share_in nat_eq es q)) ≡ cond b (left s) (left (share_in nat_eq es q))
    by_test q true = refl
    by_test q false = refl

    put : (q : ℕ) (b : Bool) → is_idle s ≡ b → get (if b then remove (shares_seen es) k else insert (shares_seen es) k s) q ≡ cond (k == q) (left s) (get (shares_seen es) q)
    put q true idle = get_removed (shares_seen es) k q ∙ ap (λ o. cond (k == q) o (get (shares_seen es) q)) (sym (ap (λ b. cond (not b) (Some s) None) idle))
    put q false idle = get_inserted (shares_seen es) k q s ∙ ap (λ o. cond (k == q) o (get (shares_seen es) q)) (sym (ap (λ b. cond (not b) (Some s) None) idle))

pub nothing_seen : shares_seen [] ≡ empty
nothing_seen = same_named (shares_seen []) empty (λ q. get-shares_seen [] q ∙ left_new ∙ sym (get-empty nat_cmp q))

-- as many are seen to wait as wait
abbrev pub Tallies : List (ℕ × Share ℕ) → Type 0
Tallies es = waiting_in es ≡ model.waiting_in (shares_seen es)

pub tallies_sets : (es es' : List (ℕ × Share ℕ)) (k : ℕ) (s : Share ℕ) → Sets nat_eq es es' k s → Tallies es → Tallies es'
tallies_sets es es' k s sets tallies =
    let seen = ap model.waiting_in (sets_seen es es' k s sets) in
    let here = ap waiting_of (share_seen es k) in
    omega (arith, seen, here, sets.waiting, waiting_put (shares_seen es) k s, tallies)

pub tallies_alike : (es es' : List (ℕ × Share ℕ)) → IsAlike nat_eq es es' → Tallies es → Tallies es'
tallies_alike es es' alike tallies = let seen = ap model.waiting_in (alike_seen es es' alike.shares) in omega (arith, seen, alike.waiting, tallies)

-- ---- who is next
pub next_seen : (es : List (ℕ × Share ℕ)) (k n w : ℕ) → IsNextOf nat_eq es k n → get (share_in nat_eq es k).waiting n ≡ Some w → ((j : ℕ) → IsWaiting (share_at (shares_seen es) j) n → j ≡ k)
    → next_of (shares_seen es) ≡ Some (record { key = k; share = share_at (shares_seen es) k; number = n; waker = w })
next_seen es k n w next waits once =
    next_found (shares_seen es) k n w (ap (λ s. get s.waiting n) (share_seen es k) ∙ waits)
    (λ j p waiting before. next.least j p (subst (λ s. IsWaiting s p) (share_seen es j) waiting) (subst (λ s. IsBefore s p (share_in nat_eq es k) n) (share_seen es j) (subst (λ s. IsBefore (share_at (shares_seen es) j) p s n) (share_seen es k) before)))
    once

-- a permit comes back, and is seen to
pub passes_seen : (f f1 : Fair ℕ ℕ) (named : Bool) → PassesOn nat_eq f f1 → Tallies f.shares → f.wakes ≡ [] → ((j k n : ℕ) → IsWaiting (share_at (shares_seen f.shares) j) n → IsWaiting (share_at (shares_seen f.shares) k) n → j ≡ k)
    → (◌≡◌ {A = Admission} (record { free = f1.free; next = f1.next; shares = shares_seen f1.shares; named = named })
    (passed (record { free = f.free; next = f.next; shares = shares_seen f.shares; named = named }) (next_of (shares_seen f.shares))))
    × (f1.wakes ≡ woken (next_of (shares_seen f.shares))) × Tallies f1.shares
passes_seen f f1 named passes tallies quiet once = elim (cases_lt 0 (waiters_of f)) as (λ _. Passed) [
  | inl some ↦
      let passed = passes.passes some in
      let admits = passed.1 in
      let s = share_in nat_eq f.shares admits.key in
      let waits : IsWaiting s admits.number = is_there (get s.waiting admits.number) passed.0 admits.waker in
      let next = next_seen f.shares admits.key admits.number passed.0 admits.next admits.waker (λ j waiting. once j admits.key admits.number waiting (subst (λ t. IsWaiting t admits.number) (sym (share_seen f.shares admits.key)) waits)) in
      let shares = sets_seen f.shares f1.shares admits.key (admitting s admits.number) admits.sets in
      let alike = ap (λ t. put_share (shares_seen f.shares) admits.key (admitting t admits.number)) (sym (share_seen f.shares admits.key)) in
      let free = ap (λ (g : Fair ℕ ℕ). g.free) passed.2 in
      let number = ap (λ (g : Fair ℕ ℕ). g.next) passed.2 in (
        (λ i. record { free = free i; next = number i; shares = (shares ∙ alike) i; named = named }) ∙ ap (model_passed (record { free = f.free; next = f.next; shares = shares_seen f.shares; named = named })) (sym next),
        ap (λ (g : Fair ℕ ℕ). g.wakes) passed.2 ∙ ap (λ ws. ws ++ passed.0 ∷ []) quiet ∙ ap woken (sym next),
        tallies_sets f.shares f1.shares admits.key (admitting s admits.number) admits.sets tallies,
      )
  | inr none ↦
      let is = passes.rests (omega (arith, none)) in
      let nobody = nobody_next (shares_seen f.shares) (λ k n waits.
      let some = len-some (share_at (shares_seen f.shares) k).waiting n (value_in (get (share_at (shares_seen f.shares) k).waiting n) waits).0 (value_in (get (share_at (shares_seen f.shares) k).waiting n) waits).1 in
      absurd (omega (arith, none, some, tallies, share_waits (shares_seen f.shares) k))) in (
        ap (λ (g : Fair ℕ ℕ). record { free = g.free; next = g.next; shares = shares_seen g.shares; named = named }) is ∙ ap (model_passed (record { free = f.free; next = f.next; shares = shares_seen f.shares; named = named })) (sym nobody),
        ap (λ (g : Fair ℕ ℕ). g.wakes) is ∙ quiet ∙ ap woken (sym nobody),
        subst (λ (g : Fair ℕ ℕ). Tallies g.shares) (sym is) tallies,
      )
]
  where
    model_passed : Admission → Option Waiter → Admission
    model_passed r o = passed r o

    Passed : Type 0
    Passed =
        (◌≡◌ {A = Admission} (record { free = f1.free; next = f1.next; shares = shares_seen f1.shares; named = named })
        (passed (record { free = f.free; next = f.next; shares = shares_seen f.shares; named = named }) (next_of (shares_seen f.shares))))
        × (f1.wakes ≡ woken (next_of (shares_seen f.shares))) × Tallies f1.shares
