-- each call on a bounded channel keeps that enough senders were woken
use Rattle.std.proofs.Common.{◌≡◌, ◌≢◌, inl, inr, ℕ, zero, suc, ◌+◌, ◌-◌, ◌≤◌, ◌==◌, ◌++◌, Bool, true, false, cond, min, List, [], ◌∷◌, take, drop, Option, Some, None, Result, Ok, Err, length, option_to_list, length-append, refl, ap, sym, subst, ◌∙◌, arith}
use Rattle.std.specs.Prelude.{is_some}
use Rattle.std.specs.Cmp.{nat_cmp_total}
use Rattle.std.specs.Ordering.{nat_cmp}
use Rattle.std.specs.FinMap as map
use Rattle.std.proofs.lemmas.Bool.Decides.{nat_tests}
use Rattle.mea_base.specs.declared.poll.Poll.{Poll}
use Rattle.mea_base.specs.declared.poll.Poll.TheVariants.{Ready, Pending}
use Rattle.mea_base.specs.Queue.{lacks, granted_in}
use Rattle.mea_base.proofs.Totals.{get_removed}
use Rattle.mea_sem_core.specs.Acquire.{demand_of}
use Rattle.mea_sem_core.specs.Core.{Waiter, Acquires, Owes, Core, AreApart, waiting, waker_under, wakers_of, with_demands, granting, poured}
use Rattle.mea_sem_core.specs.Calls.{Belongs, Loses, with_waker, without_acquire}
use Rattle.mea_sem_core.specs.Ones.{AskForOne}
use Rattle.mea_sem_core.specs.declared.acquire.Acquire.{Acquire}
use Rattle.mea_sem_core.specs.declared.acquire.Acquire.TheVariants.{New, Queued, Done, Refused}
use Rattle.mea_sem_core.proofs.Ones.{ones_lacks, ones_left, ones_granted, ones_without}
use Rattle.mea_chan_core.specs.declared.errors.SendError.{SendError}
use Rattle.mea_chan_core.specs.declared.errors.TrySendError.TheVariants.{Full, Disconnected}
use Rattle.mea_chan_core.specs.Channel.{Channel}
use Rattle.mea_chan_core.specs.Bounded.{with_waiting, with_message, is_full, after_send, after_recv, after_recv_of, made_way_for, without_receiver, without_sender, Leaves, QueuesAnew, StaysPending, StaysBy, PollsValue, PollsSend, EndsSend}
use Rattle.mea_chan_core.specs.Woken as watched
use Rattle.mea_chan_core.specs.Woken.{Watch, hearing, without, with_poll, Sees, IsChannel, Watched, Fresh, Later, EnoughWoken, pending}
use Rattle.mea_chan_core.proofs.Woken.{Kept, heard, Apart, poured_kept, poured_len, grant_gone, waiter_gone, rewaked_kept, pushed_kept}
use Rattle.mea_sem_core.proofs.Without.{AreApart-without}

same_rest : {X : Type 0} (xs ys zs : List X) → xs ++ ys ≡ xs ++ zs → ys ≡ zs
same_rest [] ys zs is = is
same_rest (x ∷ xs) ys zs is = same_rest xs ys zs (cc)

drop_all : {X : Type 0} (q : List X) → drop (length q) q ≡ []
drop_all [] = refl
drop_all (e ∷ q) = drop_all q

drop_none : {X : Type 0} (k : ℕ) (q : List X) → q ≡ [] → drop k q ≡ []
drop_none zero q none = none
drop_none (suc k) q none = ap (drop (suc k)) none

one_taken : {X : Type 0} (q : List X) → q ≢ [] → length (take 1 q) ≡ 1
one_taken [] some = absurd (some refl)
one_taken (e ∷ []) some = refl
one_taken (e ∷ d ∷ q) some = refl

get_empty : (n : ℕ) → map.get (map.empty {X = ℕ} {R = nat_cmp}) n ≡ None
get_empty n = map.get-empty nat_cmp n

-- one grant less
fewer : (g : map.FinMap nat_cmp ℕ) (k d : ℕ) → map.get g k ≡ Some d → map.len (map.remove g k) ≡ map.len g - 1
fewer g k d there = map.len-remove nat_cmp_total g k ∙ ap (λ o. cond (is_some o) (map.len g - 1) (map.len g)) there

module _ {W : Type 0} where
  still_none : (q : List (Waiter W × ℕ)) (n m : ℕ) → waiting q m ≡ None → waiting (without_acquire q n) m ≡ None
  still_none [] n m = λ none. refl
  still_none ((Acquires k d v, l) ∷ q) n m = elim (k == n) as (λ b. cond (k == m) (Some (d, l)) (waiting q m) ≡ None → waiting (cond b (without_acquire q n) ((Acquires k d v, l) ∷ without_acquire q n)) m ≡ None) [
    | true ↦ elim (k == m) as (λ b. cond b (Some (d, l)) (waiting q m) ≡ None → waiting (without_acquire q n) m ≡ None) [
      | true ↦ λ none. absurd (cc)
      | false ↦ λ none. still_none q n m none
    ]
    | false ↦ elim (k == m) as (λ b. cond b (Some (d, l)) (waiting q m) ≡ None → cond b (Some (d, l)) (waiting (without_acquire q n) m) ≡ None) [
      | true ↦ λ none. absurd (cc)
      | false ↦ λ none. still_none q n m none
    ]
  ]
  still_none ((Owes, l) ∷ q) n m = λ none. still_none q n m none

  apart_without : (q : List (Waiter W × ℕ)) (g : map.FinMap nat_cmp ℕ) (k : ℕ) → Apart q g → Apart (without_acquire q k) g
  apart_without q g k apart n waits = apart n (λ none. waits (still_none q k n none))

  apart_removed : (q : List (Waiter W × ℕ)) (g : map.FinMap nat_cmp ℕ) (k : ℕ) → Apart q g → Apart q (map.remove g k)
  apart_removed q g k apart n waits = get_removed g k n ∙ elim (k == n) as (λ b. cond b None (map.get g n) ≡ None) [
    | true ↦ refl
    | false ↦ apart n waits
  ]

  some_without : (q : List (Waiter W × ℕ)) (k : ℕ) → without_acquire q k ≢ [] → q ≢ []
  some_without q k some none = some (ap (λ (x : List (Waiter W × ℕ)). without_acquire x k) none)

  -- what is poured, and the wakers that it makes ready
  pour_kept : (t : Core W) (last : ℕ → Option W) (since : ℕ → List W) (k : ℕ) → AskForOne t.queue → AreApart t.queue → Apart t.queue t.granted → Kept t.queue t.granted last since
      → Kept (poured t k).queue (poured t k).granted last (λ n. since n ++ wakers_of (granted_in t.queue k))
  pour_kept t last since k ones distinct apart h =
      let there = poured_kept t.queue t.granted last since k ones distinct apart h in
      subst (λ (q : List (Waiter W × ℕ)). Kept q (granting t.granted (granted_in t.queue k)) last (λ n. since n ++ wakers_of (granted_in t.queue k))) (sym (ones_left t.queue k ones))
      (subst (λ (es : List (Waiter W)). Kept (drop k t.queue) (with_demands t.granted es) last (λ n. since n ++ wakers_of es)) (sym (ones_granted t.queue k ones)) there)

  pour_len : (t : Core W) (k : ℕ) → AskForOne t.queue → AreApart t.queue → Apart t.queue t.granted → map.len (poured t k).granted ≡ map.len t.granted + length (take k t.queue)
  pour_len t k ones distinct apart = ap (λ (es : List (Waiter W)). map.len (with_demands t.granted es)) (ones_granted t.queue k ones) ∙ poured_len t.queue t.granted k ones distinct apart

  pour_some : (t : Core W) (k : ℕ) → AskForOne t.queue → (poured t k).queue ≢ [] → t.queue ≢ []
  pour_some t k ones some none = some (ones_left t.queue k ones ∙ drop_none k t.queue none)

module _ {T W : Type 0} where
  pub record Enough (c : Channel T W) (watch : Watch W) : Type 0 where
    pub kept : Kept c.waiting.queue c.waiting.granted watch.last watch.since
    pub places : c.ended ≡ false → c.waiting.queue ≢ [] → c.capacity ≤ length c.queued + map.len c.waiting.granted
    pub shut : c.ended ≡ true → c.waiting.queue ≡ []

  hears : (c : Channel T W) (watch : Watch W) (ws : List W) → Enough c watch → Enough c (hearing watch ws)
  hears c watch ws h = record { kept = heard c.waiting.queue c.waiting.granted watch.last watch.since ws h.kept; places = h.places; shut = h.shut }

  -- ---- sends and receives

  full_there : (c : Channel T W) → is_full c ≡ true → c.capacity ≡ length c.queued
  full_there c full = grind (arith, nat_tests)

  sent : (c : Channel T W) (watch : Watch W) (v : T) (ws : List W) → Enough c watch → Enough (after_send c v) (hearing watch ws)
  sent c watch v ws h = by_case c.ended (is_full c) refl
    where
      by_case : (e f : Bool) → c.ended ≡ e → Enough (cond e c (cond f c (with_message c v))) (hearing watch ws)
      by_case true f is = hears c watch ws h
      by_case false true is = hears c watch ws h
      by_case false false is = record {
        kept = heard c.waiting.queue c.waiting.granted watch.last watch.since ws h.kept;
        places = λ lives some. omega (arith, h.places lives some, length-append c.queued (v ∷ []));
        shut = h.shut;
      }

  -- the senders' semaphore came from t by a pour of k, and the wakers that it had ready went over
  poured_channel : (c d : Channel T W) (t : Core W) (k : ℕ) (last : ℕ → Option W) (since : ℕ → List W) (ws : List W)
      → AskForOne t.queue → AreApart t.queue → Apart t.queue t.granted → t.wakes ≡ [] → Kept t.queue t.granted last since
      → d.waiting.queue ≡ (poured t k).queue → d.waiting.granted ≡ (poured t k).granted → d.wakes ≡ c.wakes ++ (poured t k).wakes → d.wakes ≡ c.wakes ++ ws
      → Kept d.waiting.queue d.waiting.granted last (λ n. since n ++ ws)
  poured_channel c d t k last since ws ones distinct apart quiet h queue granted wakes told =
      let same : wakers_of (granted_in t.queue k) ≡ ws = ap (λ xs. xs ++ wakers_of (granted_in t.queue k)) (sym quiet) ∙ same_rest c.wakes (poured t k).wakes ws (sym wakes ∙ told) in
      subst (λ (q : List (Waiter W × ℕ)). Kept q d.waiting.granted last (λ n. since n ++ ws)) (sym queue)
      (subst (λ (g : map.FinMap nat_cmp ℕ). Kept (poured t k).queue g last (λ n. since n ++ ws)) (sym granted)
      (subst (λ (xs : List W). Kept (poured t k).queue (poured t k).granted last (λ n. since n ++ xs)) same (pour_kept t last since k ones distinct apart h)))

  received : (c : Channel T W) (watch : Watch W) (ws : List W) → IsChannel c → Enough c watch → (after_recv c).wakes ≡ c.wakes ++ ws → Enough (after_recv c) (hearing watch ws)
  received c watch ws is h = by_queue c.queued refl
    where
      by_waiting : (rest : List T) → length c.queued ≤ length rest + 1 → (q : List (Waiter W × ℕ)) → c.waiting.queue ≡ q → (with_waiting (record c { queued = rest }) (made_way_for q c.waiting)).wakes ≡ c.wakes ++ ws
          → Enough (with_waiting (record c { queued = rest }) (made_way_for q c.waiting)) (hearing watch ws)
      by_waiting rest more [] none told = record {
        kept = heard c.waiting.queue c.waiting.granted watch.last watch.since ws h.kept;
        places = λ lives some. absurd (some none);
        shut = h.shut;
      }
      by_waiting rest more (e ∷ q) some told =
          let s = c.waiting in
          let ones = is.senders.ones in
          let len = pour_len s 1 ones is.sound.apart is.sound.granted_apart in
          record {
            kept = poured_channel c (with_waiting (record c { queued = rest }) (poured s 1)) s 1 watch.last watch.since ws ones is.sound.apart is.sound.granted_apart is.senders.quiet h.kept refl refl refl told;
            places = λ lives waits.
                let before = pour_some s 1 ones waits in
                omega (arith, h.places lives before, one_taken s.queue before, len, more);
            shut = λ ends. ones_left s.queue 1 ones ∙ drop_none 1 s.queue (h.shut ends);
          }

      by_queue : (q : List T) → c.queued ≡ q → (after_recv_of c q).wakes ≡ c.wakes ++ ws → Enough (after_recv_of c q) (hearing watch ws)
      by_queue [] none told = hears c watch ws h
      by_queue (v ∷ rest) some told = by_waiting rest (omega (arith, ap length some)) c.waiting.queue refl told

  shuts : (c : Channel T W) (watch : Watch W) (ws : List W) → IsChannel c → Enough c watch → (without_receiver c).wakes ≡ c.wakes ++ ws → Enough (without_receiver c) (hearing watch ws)
  shuts c watch ws is h told =
      let s = c.waiting in
      let ones = is.senders.ones in
      record {
        kept = poured_channel c (without_receiver c) s (lacks s.queue) watch.last watch.since ws ones is.sound.apart is.sound.granted_apart is.senders.quiet h.kept refl refl refl told;
        places = λ lives. absurd (cc);
        shut = λ ends. ones_left s.queue (lacks s.queue) ones ∙ ap (λ n. drop n s.queue) (ones_lacks s.queue ones) ∙ drop_all s.queue;
      }

  leaves_sender : (c : Channel T W) (watch : Watch W) (ws : List W) → Enough c watch → Enough (without_sender c) (hearing watch ws)
  leaves_sender c watch ws h = by_count (c.senders == 1)
    where
      by_count : (b : Bool) → Enough (cond b (record c { senders = 0; waker = None; wakes = c.wakes ++ option_to_list c.waker }) (record c { senders = c.senders - 1 })) (hearing watch ws)
      by_count true = record { kept = (hears c watch ws h).kept; places = h.places; shut = h.shut }
      by_count false = record { kept = (hears c watch ws h).kept; places = h.places; shut = h.shut }

  -- ---- a send that ends

  ended_alike : (c c' : Channel T W) (q : Core W) (watch : Watch W) (ws : List W) → Enough c watch → q ≡ c.waiting → c' ≡ with_waiting c q → Enough c' (hearing watch ws)
  ended_alike c c' q watch ws h same is =
      subst (λ (d : Channel T W). Enough d (hearing watch ws)) (sym (is ∙ ap (with_waiting c) same))
      (record { kept = (hears c watch ws h).kept; places = h.places; shut = h.shut })

  ends : (c c' : Channel T W) (watch : Watch W) (acquire : Acquire) (ws : List W) → IsChannel c → Enough c watch → Belongs c.waiting acquire → demand_of acquire ≡ 1 → EndsSend c acquire c' → c'.wakes ≡ c.wakes ++ ws
      → Enough c' (hearing (without watch acquire) ws)
  ends c c' watch (New d) ws is h belongs one e told = ended_alike c c' e.0 watch ws h e.1 e.2
  ends c c' watch (Done d) ws is h belongs one e told = ended_alike c c' e.0 watch ws h e.1 e.2
  ends c c' watch (Refused d) ws is h belongs one e told = ended_alike c c' e.0 watch ws h e.1 e.2
  ends c c' watch (Queued d k) ws is h (inr cut) one e told = absurd (let no = sym is.senders.is_open ∙ cut.0 in cc)
  ends c c' watch (Queued d k) ws is h (inl (inl granted)) one e told =
      let s = c.waiting in
      let t : Core W = record s { live = s.live - d; granted = map.remove s.granted k } in
      let ones = is.senders.ones in
      let apart = apart_removed s.queue s.granted k is.sound.granted_apart in
      let same : c' ≡ with_waiting c (poured t d) = e.2 ∙ ap (with_waiting c) (e.1.0 granted) in
      let len = pour_len t d ones is.sound.apart apart in
      let less = fewer s.granted k d granted in
      let told' : (with_waiting c (poured t d)).wakes ≡ c.wakes ++ ws = ap (λ (x : Channel T W). x.wakes) (sym same) ∙ told in
      subst (λ (x : Channel T W). Enough x (hearing (without watch (Queued d k)) ws)) (sym same) (record {
        kept = poured_channel c (with_waiting c (poured t d)) t d (without watch (Queued d k)).last watch.since ws ones is.sound.apart apart is.senders.quiet
            (grant_gone s.queue s.granted watch.last watch.since k d is.sound.granted_apart granted h.kept) refl refl refl told';
        places = λ lives waits.
            let before = pour_some t d ones waits in
            let taken : length (take d s.queue) ≡ 1 = ap (λ n. length (take n s.queue)) one ∙ one_taken s.queue before in
            omega (arith, h.places lives before, taken, len, less);
        shut = λ ends. ones_left s.queue d ones ∙ drop_none d s.queue (h.shut ends);
      })
  ends c c' watch (Queued d k) ws is h (inl (inr waits)) one e told =
      let s = c.waiting in
      let n : ℕ = d - waits.0 in
      let t : Core W = record s { live = s.live - n; queue = without_acquire s.queue k } in
      let ones = ones_without s.queue k is.senders.ones in
      let distinct = AreApart-without s.queue k is.sound.apart in
      let apart = apart_without s.queue s.granted k is.sound.granted_apart in
      let there : waiting s.queue k ≢ None = λ none. absurd (let no = sym waits.1 ∙ none in cc) in
      let same : c' ≡ with_waiting c (poured t n) = e.2 ∙ ap (with_waiting c) (e.1.1 waits.0 waits.1) in
      let len = pour_len t n ones distinct apart in
      let told' : (with_waiting c (poured t n)).wakes ≡ c.wakes ++ ws = ap (λ (x : Channel T W). x.wakes) (sym same) ∙ told in
      subst (λ (x : Channel T W). Enough x (hearing (without watch (Queued d k)) ws)) (sym same) (record {
        kept = poured_channel c (with_waiting c (poured t n)) t n (without watch (Queued d k)).last watch.since ws ones distinct apart is.senders.quiet
            (waiter_gone s.queue s.granted watch.last watch.since k is.sound.granted_apart there h.kept) refl refl refl told';
        places = λ lives some. omega (arith, h.places lives (some_without s.queue k (pour_some t n ones some)), len);
        shut = λ ends. ones_left t.queue n ones ∙ drop_none n t.queue (ap (λ (x : List (Waiter W × ℕ)). without_acquire x k) (h.shut ends));
      })

  -- ---- a send that has its answer

  -- the messages that are queued grow by at most the one that is accepted
  left_alike : (c c1 c' : Channel T W) (q : Core W) (watch : Watch W) (ws : List W) → Enough c watch → c1.waiting ≡ c.waiting → c1.ended ≡ c.ended → c1.capacity ≡ c.capacity → length c.queued ≤ length c1.queued
      → q ≡ c.waiting → c' ≡ record c1 { waiting = q } → Enough c' (hearing watch ws)
  left_alike c c1 c' q watch ws h alike ended capacity more same is =
      subst (λ (d : Channel T W). Enough d (hearing watch ws)) (sym (is ∙ ap (λ (x : Core W). record c1 { waiting = x }) same))
      (record {
        kept = (hears c watch ws h).kept;
        places = λ lives some. omega (arith, h.places (sym ended ∙ lives) some, more, capacity);
        shut = λ ends. h.shut (sym ended ∙ ends);
      })

  leaves : (c c1 c' : Channel T W) (watch : Watch W) (acquire : Acquire) (ws : List W) → IsChannel c → Enough c watch → Belongs c.waiting acquire → c1.waiting ≡ c.waiting → c1.ended ≡ c.ended → c1.capacity ≡ c.capacity
      → (c.ended ≡ false → length c1.queued ≡ length c.queued + 1) → length c.queued ≤ length c1.queued → Leaves c1 acquire c' → Enough c' (hearing (without watch acquire) ws)
  leaves c c1 c' watch (New d) ws is h belongs alike ended capacity more least e = left_alike c c1 c' e.0 watch ws h alike ended capacity least (e.1 ∙ alike) e.2
  leaves c c1 c' watch (Done d) ws is h belongs alike ended capacity more least e = left_alike c c1 c' e.0 watch ws h alike ended capacity least (e.1 ∙ alike) e.2
  leaves c c1 c' watch (Refused d) ws is h belongs alike ended capacity more least e = left_alike c c1 c' e.0 watch ws h alike ended capacity least (e.1 ∙ alike) e.2
  leaves c c1 c' watch (Queued d k) ws is h (inr cut) alike ended capacity more least e = absurd (let no = sym is.senders.is_open ∙ cut.0 in cc)
  leaves c c1 c' watch (Queued d k) ws is h (inl (inl granted)) alike ended capacity more least e =
      let s = c.waiting in
      let loses : Loses s (Queued d k) e.0 = subst (λ (x : Core W). Loses x (Queued d k) e.0) alike e.1 in
      let same : c' ≡ record c1 { waiting = record s { live = s.live - d; granted = map.remove s.granted k } } = e.2 ∙ ap (λ (x : Core W). record c1 { waiting = x }) (loses.0 granted) in
      let less = fewer s.granted k d granted in
      subst (λ (x : Channel T W). Enough x (hearing (without watch (Queued d k)) ws)) (sym same) (record {
        kept = heard s.queue (map.remove s.granted k) (without watch (Queued d k)).last watch.since ws (grant_gone s.queue s.granted watch.last watch.since k d is.sound.granted_apart granted h.kept);
        places = λ lives some. let open_still = sym ended ∙ lives in omega (arith, h.places open_still some, more open_still, less, capacity);
        shut = λ ends. h.shut (sym ended ∙ ends);
      })
  leaves c c1 c' watch (Queued d k) ws is h (inl (inr waits)) alike ended capacity more least e =
      let s = c.waiting in
      let loses : Loses s (Queued d k) e.0 = subst (λ (x : Core W). Loses x (Queued d k) e.0) alike e.1 in
      let there : waiting s.queue k ≢ None = λ none. absurd (let no = sym waits.1 ∙ none in cc) in
      let same : c' ≡ record c1 { waiting = record s { live = s.live - (d - waits.0); queue = without_acquire s.queue k } } = e.2 ∙ ap (λ (x : Core W). record c1 { waiting = x }) (loses.1 waits.0 waits.1) in
      subst (λ (x : Channel T W). Enough x (hearing (without watch (Queued d k)) ws)) (sym same) (record {
        kept = heard (without_acquire s.queue k) s.granted (without watch (Queued d k)).last watch.since ws (waiter_gone s.queue s.granted watch.last watch.since k is.sound.granted_apart there h.kept);
        places = λ lives some. omega (arith, h.places (sym ended ∙ lives) (some_without s.queue k some), least, capacity);
        shut = λ ends. ap (λ (x : List (Waiter W × ℕ)). without_acquire x k) (h.shut (sym ended ∙ ends));
      })

  answers : (c c' : Channel T W) (watch : Watch W) (v : T) (value' : Option T) (acquire acquire' : Acquire) (w : W) (answer : Result (Unit {0}) (SendError T)) (ws : List W) → IsChannel c → Enough c watch → Belongs c.waiting acquire
      → PollsSend c (Some v) acquire w (Ok (Ready answer)) c' value' acquire' → Enough c' (hearing (without watch acquire) ws)
  answers c c' watch v value' acquire acquire' w answer ws is h belongs p = by_case c.ended (is_full c) refl p
    where
      by_case : (e f : Bool) → c.ended ≡ e → PollsValue c v (cond e (Err (Disconnected v)) (cond f (Err (Full v)) (Ok tt))) acquire w (Ok (Ready answer)) c' value' acquire' → Enough c' (hearing (without watch acquire) ws)
      by_case true f ended p = leaves c c c' watch acquire ws is h belongs refl refl refl (λ lives. absurd (let no = sym ended ∙ lives in cc)) (omega arith) p.2
      by_case false true ended p = absurd (let pending = p.0 in cc)
      by_case false false ended p = leaves c (with_message c v) c' watch acquire ws is h belongs refl refl refl (λ lives. length-append c.queued (v ∷ [])) (omega (arith, length-append c.queued (v ∷ []))) p.2

  -- ---- a send that stays pending

  queues : (c c' : Channel T W) (watch : Watch W) (acquire acquire' : Acquire) (w : W) → IsChannel c → Enough c watch → c.ended ≡ false → is_full c ≡ true → QueuesAnew c acquire w c' acquire'
      → (g : map.FinMap nat_cmp ℕ) → ((n : ℕ) → map.get c.waiting.granted n ≡ None → map.get g n ≡ None) → ((q : Core W) → q.granted ≡ c.waiting.granted → (q' : Core W) → Loses q acquire q' → (q'.queue ≡ q.queue) × (q'.granted ≡ g))
      → Kept c.waiting.queue g (without watch acquire).last watch.since → Enough c' (with_poll (without watch acquire) acquire' w)
  queues c c' watch acquire acquire' w is h lives full (q, q', number, anew, loses, new, same) g gone left k =
      let s = c.waiting in
      let out = left q (ap (λ (x : Core W). x.granted) anew.is) q' loses in
      let queue : q'.queue ≡ s.queue ++ (Acquires number 1 w, 1 - 0) ∷ [] = out.0 ∙ ap (λ (x : Core W). x.queue) anew.is in
      let there = pushed_kept s.queue g (without watch acquire).last watch.since number 1 (1 - 0) w (gone number anew.not_granted) anew.not_waiting k in
      subst (λ (x : Channel T W). Enough x (with_poll (without watch acquire) acquire' w)) (sym same) (subst (λ (a : Acquire). Enough (record c { waiting = q' }) (with_poll (without watch acquire) a w)) (sym new) (record {
        kept = subst (λ (x : List (Waiter W × ℕ)). Kept x q'.granted (with_poll (without watch acquire) (Queued 1 number) w).last (with_poll (without watch acquire) (Queued 1 number) w).since) (sym queue)
            (subst (λ (x : map.FinMap nat_cmp ℕ). Kept (s.queue ++ (Acquires number 1 w, 1 - 0) ∷ []) x (with_poll (without watch acquire) (Queued 1 number) w).last (with_poll (without watch acquire) (Queued 1 number) w).since) (sym out.1) there);
        places = λ lives some. omega (arith, full_there c full);
        shut = λ ends. absurd (let no = sym lives ∙ ends in cc);
      }))

  anew : (c c' : Channel T W) (watch : Watch W) (acquire acquire' : Acquire) (w : W) → IsChannel c → Enough c watch → Belongs c.waiting acquire → c.ended ≡ false → is_full c ≡ true → ((d k : ℕ) → acquire ≡ Queued d k → map.get c.waiting.granted k ≡ Some d)
      → QueuesAnew c acquire w c' acquire' → Enough c' (with_poll (without watch acquire) acquire' w)
  anew c c' watch (New d) acquire' w is h belongs lives full granted e = queues c c' watch (New d) acquire' w is h lives full e c.waiting.granted (λ n none. none) (λ q same q' loses. (ap (λ (x : Core W). x.queue) loses, ap (λ (x : Core W). x.granted) loses ∙ same)) h.kept
  anew c c' watch (Done d) acquire' w is h belongs lives full granted e = queues c c' watch (Done d) acquire' w is h lives full e c.waiting.granted (λ n none. none) (λ q same q' loses. (ap (λ (x : Core W). x.queue) loses, ap (λ (x : Core W). x.granted) loses ∙ same)) h.kept
  anew c c' watch (Refused d) acquire' w is h belongs lives full granted e = queues c c' watch (Refused d) acquire' w is h lives full e c.waiting.granted (λ n none. none) (λ q same q' loses. (ap (λ (x : Core W). x.queue) loses, ap (λ (x : Core W). x.granted) loses ∙ same)) h.kept
  anew c c' watch (Queued d k) acquire' w is h belongs lives full granted e =
      let there = granted d k refl in
      queues c c' watch (Queued d k) acquire' w is h lives full e (map.remove c.waiting.granted k)
      (λ n none. get_removed c.waiting.granted k n ∙ elim (k == n) as (λ b. cond b None (map.get c.waiting.granted n) ≡ None) [
        | true ↦ refl
        | false ↦ none
      ])
      (λ q same q' loses. let is_lost = loses.0 (ap (λ (x : map.FinMap nat_cmp ℕ). map.get x k) same ∙ there) in (ap (λ (x : Core W). x.queue) is_lost, ap (λ (x : Core W). x.granted) is_lost ∙ ap (λ (x : map.FinMap nat_cmp ℕ). map.remove x k) same))
      (grant_gone c.waiting.queue c.waiting.granted watch.last watch.since k d is.sound.granted_apart there h.kept)

  pends : (c c' : Channel T W) (watch : Watch W) (v : T) (value' : Option T) (acquire acquire' : Acquire) (w : W) → IsChannel c → Enough c watch → Belongs c.waiting acquire
      → PollsSend c (Some v) acquire w (Ok Pending) c' value' acquire' → Enough c' (with_poll (without watch acquire) acquire' w)
  pends c c' watch v value' acquire acquire' w is h belongs p = by_case c.ended (is_full c) refl refl p
    where
      stays : (a : Acquire) → Belongs c.waiting a → c.ended ≡ false → is_full c ≡ true → StaysPending {R = Poll (Result (Unit {0}) (SendError T))} c a w (Ok Pending) c' acquire' → Enough c' (with_poll (without watch a) acquire' w)
      stays (New d) b lives full e = anew c c' watch (New d) acquire' w is h b lives full (λ x k same. absurd (cc)) e
      stays (Done d) b lives full e = anew c c' watch (Done d) acquire' w is h b lives full (λ x k same. absurd (cc)) e
      stays (Refused d) b lives full e = anew c c' watch (Refused d) acquire' w is h b lives full (λ x k same. absurd (cc)) e
      stays (Queued d k) b lives full e = by_grant (map.get c.waiting.granted k) refl e
        where
          by_grant : (o : Option ℕ) → map.get c.waiting.granted k ≡ o → StaysBy {R = Poll (Result (Unit {0}) (SendError T))} o c d k w (Ok Pending) c' acquire' → Enough c' (with_poll (without watch (Queued d k)) acquire' w)
          by_grant None none e =
              subst (λ (x : Channel T W). Enough x (with_poll (without watch (Queued d k)) acquire' w)) (sym e.1)
              (subst (λ (a : Acquire). Enough (record c { waiting = record c.waiting { queue = with_waker c.waiting.queue k w } }) (with_poll (without watch (Queued d k)) a w)) (sym e.2) (record {
                kept = rewaked_kept c.waiting.queue c.waiting.granted watch.last watch.since k w none h.kept;
                places = λ lives some. omega (arith, full_there c full);
                shut = λ ends. absurd (let no = sym lives ∙ ends in cc);
              }))
          by_grant (Some x) some e = anew c c' watch (Queued d k) acquire' w is h b lives full (λ y j same. granted_here y j same b) e
            where
              granted_here : (y j : ℕ) → Queued d k ≡ Queued y j → Belongs c.waiting (Queued d k) → map.get c.waiting.granted j ≡ Some y
              granted_here y j same (inr cut) = absurd (let no = sym is.senders.is_open ∙ cut.0 in cc)
              granted_here y j same (inl (inl granted)) = let ks : k ≡ j = cc in let ds : d ≡ y = cc in ap (map.get c.waiting.granted) (sym ks) ∙ granted ∙ ap (λ z. Some z) ds
              granted_here y j same (inl (inr waits)) = absurd (let no = sym some ∙ is.sound.granted_apart k (λ none. absurd (let bad = sym waits.1 ∙ none in cc)) in cc)

      by_case : (e f : Bool) → c.ended ≡ e → is_full c ≡ f → PollsValue c v (cond e (Err (Disconnected v)) (cond f (Err (Full v)) (Ok tt))) acquire w (Ok Pending) c' value' acquire' → Enough c' (with_poll (without watch acquire) acquire' w)
      by_case true f ended full p = absurd (let ready = p.0 in cc)
      by_case false true ended full p = stays acquire belongs ended full p.2
      by_case false false ended full p = absurd (let ready = p.0 in cc)

  -- ---- all calls

  sees : (c c' : Channel T W) (watch watch' : Watch W) → IsChannel c → Enough c watch → Sees c watch c' watch' → Enough c' watch'
  sees c _ watch _ is h (watched.Sent v ws told) = sent c watch v ws h
  sees c c' watch _ is h (watched.Pends v value' acquire acquire' w _ belongs one p) = pends c c' watch v value' acquire acquire' w is h belongs p
  sees c c' watch _ is h (watched.Answers v value' acquire acquire' w answer _ ws belongs one p told) = answers c c' watch v value' acquire acquire' w answer ws is h belongs p
  sees c c' watch _ is h (watched.Ends acquire _ ws belongs one e told) = ends c c' watch acquire ws is h belongs one e told
  sees c _ watch _ is h (watched.Receives ws told) = received c watch ws is h told
  sees c _ watch _ is h (watched.Waits w none) = record { kept = h.kept; places = h.places; shut = h.shut }
  sees c _ watch _ is h watched.Adds = record { kept = h.kept; places = h.places; shut = h.shut }
  sees c _ watch _ is h (watched.Leaves ws told) = leaves_sender c watch ws h
  sees c _ watch _ is h (watched.Shuts ws lives told) = shuts c watch ws is h told
  sees c _ watch _ is h (watched.Takes wakes) = record { kept = h.kept; places = h.places; shut = h.shut }

  -- what holds after every list of calls
  pub record Holds (c : Channel T W) (watch : Watch W) : Type 0 where
    pub channel : IsChannel c
    pub enough : Enough c watch

  holds : (c : Channel T W) (watch : Watch W) → Watched c watch → Holds c watch
  holds _ _ (Fresh c none nothing lives is) = record {
    channel = is;
    enough = record {
      kept = record {
        waits = λ n w there. absurd (let no = sym (ap (λ (q : List (Waiter W × ℕ)). waker_under q n) none) ∙ there in cc);
        granted = λ n d there. absurd (let no = sym (get_empty n) ∙ sym (ap (λ (g : map.FinMap nat_cmp ℕ). map.get g n) nothing) ∙ there in cc);
      };
      places = λ open_still some. absurd (some none);
      shut = λ ends. none;
    };
  }
  holds _ _ (Later c c' watch watch' before call is) = let h = holds c watch before in record { channel = is; enough = sees c c' watch watch' h.channel h.enough call }

  pub enough_woken : (c : Channel T W) (watch : Watch W) → Watched c watch → EnoughWoken c watch
  enough_woken c watch runs =
      let h = (holds c watch runs).enough in
      record {
        woken = h.kept.granted;
        enough = λ lives. by_queue lives c.waiting.queue refl;
        all = λ ends. let none : length c.waiting.queue ≡ 0 = ap (λ (q : List (Waiter W × ℕ)). length q) (h.shut ends) in omega arith;
      }
    where
      by_queue : c.ended ≡ false → (q : List (Waiter W × ℕ)) → c.waiting.queue ≡ q → min (c.capacity - length c.queued) (length q + map.len c.waiting.granted) ≤ map.len c.waiting.granted
      by_queue lives [] none = omega arith
      by_queue lives (e ∷ q) some =
          let places = (holds c watch runs).enough.places lives (λ none. absurd (let no = sym some ∙ none in cc)) in
          omega (arith, places)
