-- a poll that finds no memory queues a call, and else a clone failed
use Rattle.std.proofs.Common.{◌≡◌, ◌≤◌, ℕ, zero, suc, IsSome, Result, Ok, Err, IsOk, OnErr, refl, arith}
use Rattle.mea_once_core.specs.Cell.{Cell, Finds}
use Rattle.mea_once_core.specs.declared.cell_stage.CellStage.{CellStage}
use Rattle.mea_once_core.specs.declared.cell_stage.CellStage.TheVariants.{New, Queued, Running, Done}

pub one-of : (n : ℕ) → n ≤ 1 → (n ≡ 0 → ⊥) → n ≡ 1
one-of zero low some = absurd (some refl)
one-of (suc n) low some = omega arith

-- ---- what is said of an error alone
pub on-err-ok : {A B : Type 0} (P : Type 0) (r : Result A B) → IsOk r → OnErr r P
on-err-ok P (Ok x) ok = tt
on-err-ok P (Err e) ok = absurd (cc)

module _ {T W : Type 0} where
  -- what a call finds is there
  pub finds-full : (stage : CellStage) (c : Cell T W) → Finds c stage → IsSome c.value
  finds-full New c finds = finds
  finds-full (Queued n) c finds = finds.0
  finds-full Running c finds = absurd finds
  finds-full Done c finds = absurd finds
