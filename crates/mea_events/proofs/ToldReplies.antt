-- replies whose wakes stand in one list, each reply's after those of the one before
use Rattle.std.proofs.Common.{◌≡◌, ◌≢◌, ℕ, zero, suc, ◌+◌, ◌-◌, ◌<◌, ◌≤◌, ◌++◌, List, [], ◌∷◌, length, take, drop, Some, refl, ap, sym, ◌∙◌, arith, append_assoc, append-nil, slice_range, get_or}
use Rattle.std.specs.Option.{option_map_or}
use Rattle.std.specs.List.{slice_get}
use Rattle.std.proofs.lemmas.List.{take_all, length-drop, drop-append-le, take-append-le}
use Rattle.std.proofs.lemmas.Option.{slice_get_read}
use Rattle.std.proofs.Math.Seq.{drop-length}
use Rattle.mea_family.specs.declared.answer.Answer.{Answer}
use Rattle.mea_events.specs.Replies.{ReplyList, with_wake, with_wakes}
use Rattle.mea_events.specs.RepliesInside.{replies_of, AreOrdered}
use Rattle.mea_events.specs.declared.replies.Reply.{Reply}

pub length-replies_of : (rs : List Reply) (ws : List ℕ) → length (replies_of rs ws) ≡ length rs
length-replies_of [] ws = refl
length-replies_of (r ∷ []) ws = refl
length-replies_of (r ∷ next ∷ rs) ws = ap (λ n. suc n) (length-replies_of (next ∷ rs) ws)

to_end : (ws : List ℕ) (f : ℕ) → slice_range ws f (length ws) ≡ drop f ws
to_end ws f = take_all (length ws - f) (drop f ws) (omega (arith, length-drop f ws))

first_within : (r : Reply) (rs : List Reply) (n : ℕ) → AreOrdered (r ∷ rs) n → r.first ≤ n
first_within r [] n h = h
first_within r (next ∷ rs) n h = let later = first_within next rs n h.1 in omega (arith, h.0)

-- ---- one reply more

pub replies_of-push : (rs : List Reply) (ws : List ℕ) (answer : Answer)
    → replies_of (rs ++ record { answer = answer; first = length ws } ∷ []) ws ≡ replies_of rs ws ++ (answer, []) ∷ []
replies_of-push [] ws answer = ap (λ none. (answer, none) ∷ []) (drop-length ws)
replies_of-push (r ∷ []) ws answer = λ i. (r.answer, to_end ws r.first i) ∷ (answer, drop-length ws i) ∷ []
replies_of-push (r ∷ next ∷ rs) ws answer = ap (λ told. (r.answer, slice_range ws r.first next.first) ∷ told) (replies_of-push (next ∷ rs) ws answer)

pub AreOrdered-push : (rs : List Reply) (n : ℕ) (answer : Answer) → AreOrdered rs n → AreOrdered (rs ++ record { answer = answer; first = n } ∷ []) n
AreOrdered-push [] n answer h = omega arith
AreOrdered-push (r ∷ []) n answer h = (h, omega arith)
AreOrdered-push (r ∷ next ∷ rs) n answer h = (h.0, AreOrdered-push (next ∷ rs) n answer h.1)

-- ---- one wake more

pub AreOrdered-more : (rs : List Reply) (n : ℕ) → AreOrdered rs n → AreOrdered rs (n + 1)
AreOrdered-more [] n h = tt
AreOrdered-more (r ∷ []) n h = omega (arith, h)
AreOrdered-more (r ∷ next ∷ rs) n h = (h.0, AreOrdered-more (next ∷ rs) n h.1)

with_wake-cons : (r : Answer × List ℕ) (rs : List (Answer × List ℕ)) (w : ℕ) → 0 < length rs → with_wake (r ∷ rs) w ≡ r ∷ with_wake rs w
with_wake-cons r [] w h = absurd (omega arith)
with_wake-cons r (next ∷ rs) w h = refl

same_before : (ws : List ℕ) (w a b : ℕ) → a ≤ b → b ≤ length ws → slice_range (ws ++ w ∷ []) a b ≡ slice_range ws a b
same_before ws w a b low high =
    ap (take (b - a)) (drop-append-le a ws (w ∷ []) (omega arith))
    ∙ take-append-le (b - a) (drop a ws) (w ∷ []) (omega (arith, length-drop a ws))

pub replies_of-more : (rs : List Reply) (ws : List ℕ) (w : ℕ) → 0 < length rs → AreOrdered rs (length ws)
    → replies_of rs (ws ++ w ∷ []) ≡ with_wake (replies_of rs ws) w
replies_of-more [] ws w some h = absurd (omega arith)
replies_of-more (r ∷ []) ws w some h = ap (λ woken. (r.answer, woken) ∷ []) (drop-append-le r.first ws (w ∷ []) h)
replies_of-more (r ∷ next ∷ rs) ws w some h =
    (λ i. (r.answer, same_before ws w r.first next.first h.0 (first_within next rs (length ws) h.1) i) ∷ replies_of-more (next ∷ rs) ws w (omega arith) h.1 i)
    ∙ sym (with_wake-cons (r.answer, slice_range ws r.first next.first) (replies_of (next ∷ rs) ws) w (omega (arith, length-replies_of (next ∷ rs) ws)))

-- ---- the reply at a place

-- where the wakes of reply i end
abbrev pub end_at : List Reply → ℕ → ℕ → ℕ
end_at rs n i = option_map_or (λ next. next.first) (slice_get rs (i + 1)) n

pub record IsReply (rs : List Reply) (ws : List ℕ) (i : ℕ) (r : Reply) : Type 0 where
  pub low : r.first ≤ end_at rs (length ws) i
  pub high : end_at rs (length ws) i ≤ length ws
  pub seen : slice_get (replies_of rs ws) i ≡ Some (r.answer, slice_range ws r.first (end_at rs (length ws) i))

next_place : (i : ℕ) → suc (i + 1) ≡ suc i + 1
next_place i = omega arith

pub reply_at : (rs : List Reply) (ws : List ℕ) (i : ℕ) (r : Reply) → AreOrdered rs (length ws) → slice_get rs i ≡ Some r → IsReply rs ws i r
reply_at [] ws i r h is = absurd (cc)
reply_at (q ∷ []) ws zero r h is =
    let same : q ≡ r = cc in
    record {
      low = rw (← same) h;
      high = omega arith;
      seen = rw (← same) (ap (λ told. Some (q.answer, told)) (sym (to_end ws q.first)));
    }
reply_at (q ∷ next ∷ rs) ws zero r h is =
    let same : q ≡ r = cc in
    record {
      low = rw (← same) h.0;
      high = first_within next rs (length ws) h.1;
      seen = rw (← same) refl;
    }
reply_at (q ∷ []) ws (suc i) r h is = absurd (cc)
reply_at (q ∷ next ∷ rs) ws (suc i) r h is =
    let later = reply_at (next ∷ rs) ws i r h.1 is in
    let end : end_at (next ∷ rs) (length ws) i ≡ end_at (q ∷ next ∷ rs) (length ws) (suc i) =
    ap (λ k. option_map_or {T = Reply} (λ found. found.first) (slice_get (q ∷ next ∷ rs) k) (length ws)) (next_place i) in
    record {
      low = rw (← end) later.low;
      high = rw (← end) later.high;
      seen = rw (← end) later.seen;
    }

-- ---- wakes of the last reply

with_wake-append : (rs : List (Answer × List ℕ)) (answer : Answer) (told : List ℕ) (w : ℕ)
    → with_wake (rs ++ (answer, told) ∷ []) w ≡ rs ++ (answer, told ++ w ∷ []) ∷ []
with_wake-append [] answer told w = refl
with_wake-append (r ∷ []) answer told w = refl
with_wake-append (r ∷ next ∷ rs) answer told w = ap (λ later. r ∷ later) (with_wake-append (next ∷ rs) answer told w)

pub with_wakes-append : (rs : List (Answer × List ℕ)) (answer : Answer) (told ws : List ℕ)
    → with_wakes (rs ++ (answer, told) ∷ []) ws ≡ rs ++ (answer, told ++ ws) ∷ []
with_wakes-append rs answer told [] = ap (λ all. rs ++ (answer, all) ∷ []) (sym (append-nil told))
with_wakes-append rs answer told (w ∷ ws) =
    ap (λ later. with_wakes later ws) (with_wake-append rs answer told w)
    ∙ with_wakes-append rs answer (told ++ w ∷ []) ws
    ∙ ap (λ all. rs ++ (answer, all) ∷ []) (append_assoc told (w ∷ []) ws)

pub length-with_wake : (rs : List (Answer × List ℕ)) (w : ℕ) → length (with_wake rs w) ≡ length rs
length-with_wake [] w = refl
length-with_wake (r ∷ []) w = refl
length-with_wake (r ∷ next ∷ rs) w = ap (λ n. suc n) (length-with_wake (next ∷ rs) w)

-- wakes that are handed to the last reply one by one: those that are left give all the replies, and have room
pub record Hands (all : List (Answer × List ℕ)) (wakes : List ℕ) (told : ReplyList) : Type 0 where
  pub replies : with_wakes told.replies wakes ≡ all
  pub room : length wakes ≤ told.spare
  pub last : told.replies ≢ []

pub hands_one : (all : List (Answer × List ℕ)) (now wakes : List ℕ) (told new : ReplyList) (w : ℕ) → Hands all now told → now ≡ w ∷ wakes
    → new ≡ record { replies = with_wake told.replies w; room = told.room; spare = told.spare - 1 } → Hands all wakes new
hands_one all now wakes told new w h taken added =
    let replies : new.replies ≡ with_wake told.replies w = ap (λ t. t.replies) added in
    let spare : new.spare ≡ told.spare - 1 = ap (λ t. t.spare) added in
    record {
      replies = ap (λ rs. with_wakes rs wakes) replies ∙ ap (with_wakes told.replies) (sym taken) ∙ h.replies;
      room = omega (arith, h.room, ap length taken, spare);
      last = λ none. h.last (some told.replies w (sym replies ∙ none));
    }
  where
    some : (rs : List (Answer × List ℕ)) (v : ℕ) → with_wake rs v ≡ [] → rs ≡ []
    some [] v e = e
    some (r ∷ rs) v e = absurd (let long = length-with_wake (r ∷ rs) v in let none = ap length e in omega arith)

-- the reply that was pushed, once all wakes of its event were handed over
pub told_reply : (rs pushed final : List (Answer × List ℕ)) (answer : Answer) (before ws : List ℕ) (reply : Answer × List ℕ)
    → pushed ≡ rs ++ (answer, []) ∷ [] → final ≡ with_wakes pushed ws
    → answer ≡ reply.0 → ws ≡ before ++ reply.1 → before ≡ [] → final ≡ rs ++ reply ∷ []
told_reply rs pushed final answer before ws reply push over same woken quiet =
    let all : ws ≡ reply.1 = woken ∙ ap (λ q. q ++ reply.1) quiet in
    over ∙ ap (λ told. with_wakes told ws) push ∙ with_wakes-append rs answer [] ws ∙ (λ i. rs ++ (same i, all i) ∷ [])

-- ---- what a contract on a place means for the fields

pub within_items : (rs : List Reply) (ws : List ℕ) (i n : ℕ) (t v : ReplyList) → v ≡ t → v.replies ≡ replies_of rs ws → i < length t.replies → n ≡ length rs → i < n
within_items rs ws i n t v is seen within size =
    let same : length v.replies ≡ length rs = ap length seen ∙ length-replies_of rs ws in
    let here : length t.replies ≡ length v.replies = ap (λ (u : ReplyList). length u.replies) (sym is) in
    omega arith

-- the reply at a place that was read, with the end of its wakes
pub reply_read : (rs seen : List Reply) (ws : List ℕ) (i n : ℕ) (r : Reply) (end total : ℕ) → AreOrdered rs (length ws) → n ≡ length rs → i < n
    → r ≡ get_or rs i r
    → end ≡ option_map_or (λ next. next.first) (slice_get seen (i + 1)) total → seen ≡ rs → total ≡ length ws
    → (r.first ≤ end) × (end ≤ length ws) × (slice_get (replies_of rs ws) i ≡ Some (r.answer, slice_range ws r.first end))
reply_read rs seen ws i n r end total h size within is ends same all =
    let reply = reply_at rs ws i r h (slice_get_read rs n i r size within is) in
    let there : end ≡ end_at rs (length ws) i = ends ∙ ap (λ xs. option_map_or {T = Reply} (λ next. next.first) (slice_get xs (i + 1)) total) same
    ∙ ap (option_map_or {T = Reply} (λ next. next.first) (slice_get rs (i + 1))) all in
    (rw there reply.low, rw there reply.high, rw there reply.seen)
