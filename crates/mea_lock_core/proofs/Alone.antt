-- a write is alone
use Rattle.std.proofs.Common.{◌≡◌, ◌+◌, ℕ, Bool, true, false, cond, ◌||◌, refl, arith}
use Rattle.mea_base.specs.declared.turn.Turn.{Turn}
use Rattle.mea_base.specs.declared.turn.Turn.TheVariants.{Ready, Pending}
use Rattle.mea_sem_core.specs.Acquire.{demand_of}
use Rattle.mea_sem_core.specs.Calls.{HoldsAfter}
use Rattle.mea_sem_core.specs.Core.{Core, held_of}
use Rattle.mea_sem_core.specs.declared.acquire.Acquire.{Acquire}
use Rattle.mea_sem_core.specs.declared.acquire.Acquire.TheVariants.{New, Queued, Done, Refused}
use Rattle.mea_lock_core.specs.Lock.{IsUnready}
use Rattle.mea_lock_core.specs.RwLock.{RwLock, is_ready, IsAlone, IsSound, LetsIn, HoldsShare}

module _ {W : Type 0} where
  -- n more are held, of all that live
  pub alone_more : (s s' : Core W) (n most : ℕ) (write writing : Bool) → held_of s' ≡ held_of s + n → n ≡ cond write most 1 → s'.live ≡ most
      → (writing ≡ true → held_of s ≡ most)
      → (writing || write) ≡ true → held_of s' ≡ most
  alone_more s s' n most true writing holds size all alone is = omega (arith, holds, size, all)
  alone_more s s' n most false true holds size all alone is = let full = alone refl in omega (arith, holds, size, all, full)
  alone_more s s' n most false false holds size all alone is = absurd (cc)

  -- after a poll
  pub alone_after : (s s' : Core W) (a : Acquire) (turn : Turn W) (most : ℕ) (write writing : Bool) → HoldsAfter s a turn s' → IsUnready a
      → demand_of a ≡ cond write most 1 → s'.live ≡ most → (writing ≡ true → held_of s ≡ most)
      → (writing || cond write (is_ready turn) false) ≡ true → held_of s' ≡ most
  alone_after s s' (New d) (Ready w) most true writing holds unready size all alone is = alone_more s s' d most true writing holds size all alone is
  alone_after s s' (New d) (Ready w) most false writing holds unready size all alone is = alone_more s s' d most false writing holds size all alone is
  alone_after s s' (Queued d n) (Ready w) most true writing holds unready size all alone is = alone_more s s' d most true writing holds size all alone is
  alone_after s s' (Queued d n) (Ready w) most false writing holds unready size all alone is = alone_more s s' d most false writing holds size all alone is
  alone_after s s' (Done d) turn most write writing holds unready size all alone is = absurd unready
  alone_after s s' (Refused d) turn most write writing holds unready size all alone is = absurd unready
  alone_after s s' (New d) Pending most true true holds unready size all alone is = let full = alone refl in omega (arith, holds, full)
  alone_after s s' (New d) Pending most false true holds unready size all alone is = let full = alone refl in omega (arith, holds, full)
  alone_after s s' (Queued d n) Pending most true true holds unready size all alone is = let full = alone refl in omega (arith, holds, full)
  alone_after s s' (Queued d n) Pending most false true holds unready size all alone is = let full = alone refl in omega (arith, holds, full)
  alone_after s s' (New d) Pending most true false holds unready size all alone is = absurd (cc)
  alone_after s s' (New d) Pending most false false holds unready size all alone is = absurd (cc)
  alone_after s s' (Queued d n) Pending most true false holds unready size all alone is = absurd (cc)
  alone_after s s' (Queued d n) Pending most false false holds unready size all alone is = absurd (cc)

module _ {V W : Type 0} where
  -- one permit more is held than a write leaves
  not_writing : (l : RwLock V W) (s' : Core W) (b : Bool) → l.writing ≡ b → held_of s' ≡ held_of l.permits + 1 → s'.live ≡ l.most
      → (l.writing ≡ true → held_of l.permits ≡ l.most) → l.writing ≡ false
  not_writing l s' true is holds all alone = absurd (let full = alone is in omega (arith, holds, all, full))
  not_writing l s' false is holds all alone = is

  -- whom a poll lets in
  pub lets_in : (l : RwLock V W) (s' : Core W) (a : Acquire) (turn : Turn W) (write : Bool) → HoldsAfter l.permits a turn s' → IsUnready a
      → demand_of a ≡ cond write l.most 1 → s'.live ≡ l.most → (l.writing ≡ true → held_of l.permits ≡ l.most) → LetsIn write l turn
  lets_in l s' (New d) (Ready w) true holds unready size all alone = omega (arith, holds, size, all)
  lets_in l s' (Queued d n) (Ready w) true holds unready size all alone = omega (arith, holds, size, all)
  lets_in l s' (New d) (Ready w) false holds unready size all alone = not_writing l s' l.writing refl (omega (arith, holds, size)) all alone
  lets_in l s' (Queued d n) (Ready w) false holds unready size all alone = not_writing l s' l.writing refl (omega (arith, holds, size)) all alone
  lets_in l s' (Done d) (Ready w) write holds unready size all alone = absurd unready
  lets_in l s' (Refused d) (Ready w) write holds unready size all alone = absurd unready
  lets_in l s' a Pending true holds unready size all alone = tt
  lets_in l s' a Pending false holds unready size all alone = tt

  -- and how much it adds to what is held
  pub holds_share : (l l' : RwLock V W) (a : Acquire) (turn : Turn W) (write : Bool) → HoldsAfter l.permits a turn l'.permits → IsUnready a
      → demand_of a ≡ cond write l.most 1 → HoldsShare write l turn l'
  holds_share l l' (New d) (Ready w) write holds unready size = omega (arith, holds, size)
  holds_share l l' (Queued d n) (Ready w) write holds unready size = omega (arith, holds, size)
  holds_share l l' (Done d) (Ready w) write holds unready size = absurd unready
  holds_share l l' (Refused d) (Ready w) write holds unready size = absurd unready
  holds_share l l' a Pending write holds unready size = holds

  -- a write that is held is alone
  pub is_alone : (l : RwLock V W) → IsSound l → l.writing ≡ true → IsAlone l
  is_alone l sound writing =
      let held = sound.alone writing in
      let all = sound.all in
      let some = sound.some in
      record { held = held; readers = rw writing refl; free = omega (arith, held, all, some); paid = omega (arith, held, all, some) }
