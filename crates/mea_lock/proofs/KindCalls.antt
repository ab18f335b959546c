-- the calls of each kind of core, as the hall sees them
use Rattle.std.proofs.Common.{◌≡◌, ℕ, ◌+◌, ◌-◌, ◌≤◌, ◌↔◌, ◌&&◌, ◌||◌, Bool, true, false, IsTrue, nat_lt, refl, ap, sym, ◌∙◌, arith, if◌then◌else◌}
use Rattle.std.proofs.lemmas.Bool.Decides.{nat_tests}
use Rattle.mea_by_name.specs.declared.named_waker.NamedWaker.{NamedWaker}
use Rattle.mea_sem_core.specs.Core.{held_of}
use Rattle.mea_sem_core.specs.Calls.{given_back}
use Rattle.mea_lock_core.specs.Lock as mutex
use Rattle.mea_lock_core.specs.Lock.{Lock}
use Rattle.mea_lock_core.specs.RwLock.{IsSound, share_of, readers_of}
use Rattle.mea_lock.specs.Cores.{NamedLock, as_rw, TakesLock, UnlocksLock, keeps_out}

abbrev Mutex : Type 0
Mutex = Lock ℕ NamedWaker

none_held : (n : ℕ) → n ≡ 0 → nat_lt 0 n ≡ false
none_held n is = grind (arith, nat_tests)

is_some : (n : ℕ) → nat_lt 0 n ≡ true → 1 ≤ n
is_some n is = grind (arith, nat_tests)

some_is : (n : ℕ) → 1 ≤ n → nat_lt 0 n ≡ true
some_is n some = grind (arith, nat_tests)

pub sound_rw : (l : Mutex) → mutex.IsSound l → IsSound (as_rw l)
sound_rw l sound = record {
  permits = sound.permits;
  some = omega arith;
  all = sound.one;
  no_debt = sound.no_debt;
  is_open = sound.is_open;
  alone = λ writing. let some = is_some (held_of l.permits) writing in omega (arith, some, sound.permits.total, sound.one);
}

-- ---- whom they keep out
some_test : (b : Bool) (n : ℕ) → IsTrue b ↔ (1 ≤ n) → b ≡ nat_lt 0 n
some_test true n is = sym (some_is n (is.0 refl))
some_test false n is = elim (nat_lt 0 n) as (λ t. nat_lt 0 n ≡ t → false ≡ nat_lt 0 n) [ true ↦ λ some. absurd (let no = is.1 (is_some n some) in cc) | false ↦ λ none. sym none ] refl

pub mutex_keeps_out : (l : Mutex) (write b : Bool) → IsTrue b ↔ (1 ≤ held_of l.permits) → b ≡ keeps_out write (as_rw l)
mutex_keeps_out l true b is = some_test b (held_of l.permits) is
mutex_keeps_out l false b is = some_test b (held_of l.permits) is

-- by whether a write is held, and how many reads
pub rw_keeps_out : (l : NamedLock) (write writing : Bool) (readers : ℕ) → IsSound l → writing ≡ l.writing → readers ≡ readers_of l → (writing || (write && nat_lt 0 readers)) ≡ keeps_out write l
rw_keeps_out l write writing readers sound writes reads = (λ j. writes j || (write && nat_lt 0 (reads j))) ∙ at l.writing refl write
  where
    at : (b : Bool) → l.writing ≡ b → (w : Bool) → (b || (w && nat_lt 0 (if b then 0 else held_of l.permits))) ≡ (if w then nat_lt 0 (held_of l.permits) else b)
    at true writing true = sym (some_is (held_of l.permits) (let all = sound.alone writing in let some = sound.some in omega (arith, all, some)))
    at true writing false = refl
    at false writing true = refl
    at false writing false = refl

-- a mutex was taken by a try
pub share_one : (l : Mutex) (write : Bool) → share_of (as_rw l) write ≡ 1
share_one l true = refl
share_one l false = refl

pub takes_mutex : (l l' : Mutex) (write : Bool) → write ≡ true → l' ≡ record l { permits = record l.permits { free = l.permits.free - 1 } } → held_of l.permits ≡ 0 → held_of l'.permits ≡ 1 → mutex.IsSound l'
    → TakesLock (as_rw l) write (as_rw l')
takes_mutex l l' true writes is was now sound = record {
  lock = λ i. record { permits = ap (λ (l : Mutex). l.permits) is i; value = ap (λ (l : Mutex). l.value) is i; most = 1; writing = some_is (held_of l'.permits) (omega (arith, now)) i };
  alone = was;
  held = omega (arith, was, now);
  sound = sound_rw l' sound;
}
takes_mutex l l' false writes is was now sound = absurd (cc)

-- and given up
pub unlocks_mutex : (l l' : Mutex) (write : Bool) → l' ≡ record l { permits = given_back l.permits 1 } → held_of l'.permits ≡ 0 → held_of l.permits ≡ 1 → mutex.IsSound l' → UnlocksLock (as_rw l) write (as_rw l')
unlocks_mutex l l' true is free one sound = record {
  lock = λ i. record { permits = ap (λ (l : Mutex). l.permits) is i; value = ap (λ (l : Mutex). l.value) is i; most = 1; writing = none_held (held_of l'.permits) free i };
  held = omega (arith, free, one);
  sound = sound_rw l' sound;
}
unlocks_mutex l l' false is free one sound = record {
  lock = λ i. record { permits = ap (λ (l : Mutex). l.permits) is i; value = ap (λ (l : Mutex). l.value) is i; most = 1; writing = none_held (held_of l'.permits) free i };
  held = omega (arith, free, one);
  sound = sound_rw l' sound;
}

-- ---- a reader-writer lock
pub writes_rw : (l l' : NamedLock) (write : Bool) → write ≡ true → l' ≡ record l { permits = record l.permits { free = l.permits.free - l.most }; writing = true } → held_of l.permits ≡ 0 → held_of l'.permits ≡ l.most → IsSound l'
    → TakesLock l write l'
writes_rw l l' true writes is was now sound = record { lock = is; alone = was; held = omega (arith, was, now); sound = sound }
writes_rw l l' false writes is was now sound = absurd (cc)

pub reads_rw : (l l' : NamedLock) (write : Bool) → write ≡ false → l' ≡ record l { permits = record l.permits { free = l.permits.free - 1 } } → l.writing ≡ false → held_of l'.permits ≡ held_of l.permits + 1 → IsSound l'
    → TakesLock l write l'
reads_rw l l' true reads is was now sound = absurd (cc)
reads_rw l l' false reads is was now sound = record { lock = is ∙ (λ i. record l { permits = record l.permits { free = l.permits.free - 1 }; writing = was i }); alone = was; held = now; sound = sound }

pub unlocks_write : (l l' : NamedLock) (write : Bool) → write ≡ true → l' ≡ record l { permits = given_back l.permits l.most; writing = false } → held_of l'.permits ≡ 0 → held_of l.permits ≡ l.most → IsSound l' → UnlocksLock l write l'
unlocks_write l l' true writes is free all sound = record { lock = is; held = omega (arith, free, all); sound = sound }
unlocks_write l l' false writes is free all sound = absurd (cc)
