-- guards that fit their lock: a write is alone, and a lock of one permit has one guard
use Rattle.std.proofs.Common.{◌≡◌, ℕ, ◌+◌, ◌≤◌, ◌<◌, Bool, true, false, Some, ap, ◌∙◌, arith}
use Rattle.std.specs.FinMap.{get, remove}
use Rattle.mea_base.specs.Totals.{weight}
use Rattle.mea_base.proofs.Maps.{total-has, get-removed_other}
use Rattle.mea_base.proofs.Tests.{by_name}
use Rattle.mea_base.proofs.Totals.{total-remove}
use Rattle.mea_by_name.specs.ByName.{own}
use Rattle.mea_by_name.proofs.Own.{own-at}
use Rattle.mea_lock_model.specs.Locks.{Lock, LockGuard, Locks, size}
use Rattle.mea_lock_model.specs.Valid.{FitGuards, WritesAlone, OneGuard}

size-least : (r : Lock) (writes : Bool) → 0 < r.most → 1 ≤ size r writes
size-least r true some = omega arith
size-least r false some = omega arith

-- what two guards of one lock have is no more than it has
both_fit : (h : Locks) → FitGuards h → (o g j : ℕ) (r : Lock) (x y : LockGuard) → get h.locks o ≡ Some r → get h.guards g ≡ Some x → get h.guards j ≡ Some y → x.lock ≡ o → y.lock ≡ o → (g ≡ j → ⊥)
    → size r x.writes + size r y.writes ≤ r.most
both_fit h fit o g j r x y lock first second mine also apart =
    let gs = own (λ (x : LockGuard). x.lock) o h.guards in
    let x_there : get (own (λ (x : LockGuard). x.lock) o h.guards) g ≡ Some x = own-at (λ (x : LockGuard). x.lock) o h.guards g x first mine in
    let y_there : get (own (λ (x : LockGuard). x.lock) o h.guards) j ≡ Some y = own-at (λ (x : LockGuard). x.lock) o h.guards j y second also in
    let here : weight (λ k (x : LockGuard). size r x.writes) g (get (own (λ (x : LockGuard). x.lock) o h.guards) g) ≡ size r x.writes = ap (weight (λ k (x : LockGuard). size r x.writes) g) x_there in
    let without = total-remove (λ k (x : LockGuard). size r x.writes) (own (λ (x : LockGuard). x.lock) o h.guards) g in
    let other = total-has (λ k (x : LockGuard). size r x.writes) (remove (own (λ (x : LockGuard). x.lock) o h.guards) g) j y (get-removed_other (own (λ (x : LockGuard). x.lock) o h.guards) g j apart ∙ y_there) in
    omega (arith, here, without, other, fit.all o r lock)

pub writes_alone : (h : Locks) → FitGuards h → WritesAlone h
writes_alone h fit o g j r x y lock first second mine also writes = by_name {Z = g ≡ j} g j (λ same. same) (λ apart.
    let both = both_fit h fit o g j r x y lock first second mine also apart in
    let all : size r x.writes ≡ r.most = ap (size r) writes in
    absurd (omega (arith, both, all, size-least r y.writes (fit.some o r lock))))

pub one_guard : (h : Locks) → FitGuards h → OneGuard h
one_guard h fit o g j r x y lock one first second mine also = by_name {Z = g ≡ j} g j (λ same. same) (λ apart.
    let both = both_fit h fit o g j r x y lock first second mine also apart in
    absurd (omega (arith, both, one, size-least r x.writes (fit.some o r lock), size-least r y.writes (fit.some o r lock))))
