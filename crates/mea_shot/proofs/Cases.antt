-- The cases of the steps.
use Rattle.std.proofs.Common.{◌≡◌, ℕ, ◌+◌, ◌%◌, ◌^◌, ◌==◌, List, [], ◌∷◌, Some, None, refl, sym, ap, inl, inr, ◌⊎◌}
use mathlib.Core.Option as maybe
use prog.Atomic.{either}
use Rattle.atomic_table.specs.Table.{Me, keeps, takes, gives, step, Allows}
use Rattle.mea_shot.specs.Rule.{Holds, Legal, Slot}
use Rattle.mea_shot.specs.declared.message.Content.TheVariants.{Message, Waker}
use Rattle.mea_shot.specs.declared.view.View.{View}
use Rattle.mea_shot.specs.declared.view.View.TheVariants.{Sends, Receives}
use Rattle.mea_shot.specs.declared.view.SendStage.{SendStage}
use Rattle.mea_shot.specs.declared.view.SendStage.TheVariants.{Ready, Shut, Writing, WritingShut, Finishing, Leaving, Sent, Refused, Gone}
use Rattle.mea_shot.specs.declared.view.RecvStage.{RecvStage}
use Rattle.mea_shot.specs.declared.view.RecvStage.TheVariants.{Waiting, Holding, Published, Woken, Full, Received, Closed, Ended}
use Rattle.std.specs.Prelude.{bit_xor}
use Rattle.mea_shot.specs.Steps.{opens, asks, puts, finishes, flips, leaves, looks, grasps, publishes, reclaims, takes_message, closes, IsSender, IsWriting, IsOver, IsUnpublished, IsPublished}
use Rattle.mea_shot.proofs.Keeps.{SendTurn, RecvTurn, sends, receives}

ready_shut : {W : Type 0} → ◌≡◌ {A = View W} (Sends Ready) (Sends Shut) → ⊥
ready_shut e = cc

waiting_full : {W : Type 0} → ◌≡◌ {A = View W} (Receives Waiting) (Receives Full) → ⊥
waiting_full e = cc

waiting_closed : {W : Type 0} → ◌≡◌ {A = View W} (Receives Waiting) (Receives Closed) → ⊥
waiting_closed e = cc

waiting_received : {W : Type 0} → ◌≡◌ {A = View W} (Receives Waiting) (Receives Received) → ⊥
waiting_received e = cc

full_received : {W : Type 0} → ◌≡◌ {A = View W} (Receives Full) (Receives Received) → ⊥
full_received e = cc

full_closed : {W : Type 0} → ◌≡◌ {A = View W} (Receives Full) (Receives Closed) → ⊥
full_closed e = cc

waiting_over : {W : Type 0} → IsOver {W = W} (Receives Waiting) → ⊥
waiting_over o = elim o [ inl e ↦ waiting_received e | inr e ↦ waiting_closed e ]

full_over : {W : Type 0} → IsOver {W = W} (Receives Full) → ⊥
full_over o = elim o [ inl e ↦ full_received e | inr e ↦ full_closed e ]

module _ {T W : Type 0} (fits : T → Type 0) where
  opens_ready : (b : RecvStage W) (n : ℕ) (h g : maybe.Option (Slot T W)) → Legal fits Ready b n h g → SendTurn fits ([]) (λ n. n) (opens fits (step 2 0 0 0 maybe.none) (Sends Ready, [])) b n h g
  opens_ready Waiting n h g l = (Writing, (takes 0 None, maybe.none, g, ap maybe.some l.1, refl, (l.0, l.2), refl))
  opens_ready Holding n h g l = (Writing, (takes 0 None, maybe.none, g, ap maybe.some l.1, refl, l.0, refl))
  opens_ready (Published w) n h g l = (Writing, (takes 0 None, maybe.none, g, ap maybe.some l.1, refl, (l.0, l.2), refl))
  opens_ready Ended n h g l = (Writing, (takes 0 None, maybe.none, g, ap maybe.some l.1, refl, l.0, refl))
  opens_ready other n h g l = absurd l

  opens_shut : (b : RecvStage W) (n : ℕ) (h g : maybe.Option (Slot T W)) → Legal fits Shut b n h g → SendTurn fits ([]) (λ n. n) (opens fits (step 2 0 0 0 maybe.none) (Sends Shut, [])) b n h g
  opens_shut Ended n h g l = (WritingShut, (takes 0 None, maybe.none, g, ap maybe.some l.1, refl, l.0, refl))
  opens_shut other n h g l = absurd l

  asks_ready : (b : RecvStage W) (n : ℕ) (h g : maybe.Option (Slot T W)) → Legal fits Ready b n h g → SendTurn fits ([]) (λ n. n) (asks fits (step 2 0 0 0 maybe.none) (Sends Ready, [])) b n h g
  asks_ready Waiting n h g l = rw l.0 (Ready, (keeps, h, g, tt, refl, (refl, l.1, l.2), (refl, (λ e. absurd (ready_shut e)))))
  asks_ready Holding n h g l = rw l.0 (Ready, (keeps, h, g, tt, refl, (refl, l.1), (refl, (λ e. absurd (ready_shut e)))))
  asks_ready (Published w) n h g l = rw l.0 (Ready, (keeps, h, g, tt, refl, (refl, l.1, l.2), (refl, (λ e. absurd (ready_shut e)))))
  asks_ready Ended n h g l = rw l.0 (Shut, (keeps, h, g, tt, refl, (refl, l.1), (refl, (λ e. absurd (ready_shut e)))))
  asks_ready other n h g l = absurd l

  asks_shut : (b : RecvStage W) (n : ℕ) (h g : maybe.Option (Slot T W)) → Legal fits Shut b n h g → SendTurn fits ([]) (λ n. n) (asks fits (step 2 0 0 0 maybe.none) (Sends Shut, [])) b n h g
  asks_shut Ended n h g l = rw l.0 (Shut, (keeps, h, g, tt, refl, (refl, l.1), (refl, (λ e. refl))))
  asks_shut other n h g l = absurd l

  puts_open : (x : T) → fits x → (b : RecvStage W) (n : ℕ) (h g : maybe.Option (Slot T W)) → Legal fits Writing b n h g → SendTurn fits ((0, Some (Message x)) ∷ []) (λ n. (n + 1) % 2 ^ 64) (puts fits (step 2 0 1 0 maybe.none) (Sends Writing, (0, Some (Message x)) ∷ [])) b n h g
  puts_open x ok Waiting n h g l = rw l.0 (Sent, (gives, maybe.some (Some (Message x)), g, tt, refl, (refl, (x, ok, refl)), (refl, refl)))
  puts_open x ok Holding n h g l = rw l (Sent, (gives, maybe.some (Some (Message x)), g, tt, refl, (refl, (x, ok, refl)), (refl, refl)))
  puts_open x ok (Published w) n h g l = rw l.0 (Finishing, (takes 1 (Some (Waker w)), h, maybe.none, ap maybe.some l.1, refl, refl, (refl, (w, refl))))
  puts_open x ok Ended n h g l = rw l (Refused, (keeps, h, g, tt, refl, inl refl, (refl, refl)))
  puts_open x ok other n h g l = absurd l

  puts_shut : (x : T) → fits x → (b : RecvStage W) (n : ℕ) (h g : maybe.Option (Slot T W)) → Legal fits WritingShut b n h g → SendTurn fits ((0, Some (Message x)) ∷ []) (λ n. (n + 1) % 2 ^ 64) (puts fits (step 2 0 1 0 maybe.none) (Sends WritingShut, (0, Some (Message x)) ∷ [])) b n h g
  puts_shut x ok Ended n h g l = rw l (Refused, (keeps, h, g, tt, refl, inl refl, (refl, refl)))
  puts_shut x ok other n h g l = absurd l

  finishes_each : (x : T) (y : Slot T W) → fits x → (b : RecvStage W) (n : ℕ) (h g : maybe.Option (Slot T W)) → Legal fits Finishing b n h g → SendTurn fits ((0, Some (Message x)) ∷ (1, y) ∷ []) (λ _. 4) (finishes fits (step 2 0 4 0 maybe.none) (Sends Finishing, (0, Some (Message x)) ∷ (1, y) ∷ [])) b n h g
  finishes_each x y ok (Published w) n h g l = rw l (Sent, (gives, maybe.some (Some (Message x)), g, tt, refl, (refl, (x, ok, refl)), refl))
  finishes_each x y ok Woken n h g l = rw l (Sent, (gives, maybe.some (Some (Message x)), g, tt, refl, (refl, (x, ok, refl)), refl))
  finishes_each x y ok Ended n h g l = rw l (Refused, (keeps, h, g, tt, refl, inr refl, (refl, refl)))
  finishes_each x y ok other n h g l = absurd l

  flips_ready : (b : RecvStage W) (n : ℕ) (h g : maybe.Option (Slot T W)) → Legal fits Ready b n h g → SendTurn fits ([]) (λ n. bit_xor n 1) (flips fits (step 2 0 1 0 maybe.none) (Sends Ready, [])) b n h g
  flips_ready Waiting n h g l = rw l.0 (Gone, (keeps, h, g, tt, refl, refl, refl))
  flips_ready Holding n h g l = rw l.0 (Gone, (keeps, h, g, tt, refl, refl, refl))
  flips_ready (Published w) n h g l = rw l.0 (Leaving, (takes 1 (Some (Waker w)), h, maybe.none, ap maybe.some l.2, refl, refl, (w, refl)))
  flips_ready Ended n h g l = rw l.0 (Gone, (keeps, h, g, tt, refl, inr refl, refl))
  flips_ready other n h g l = absurd l

  flips_shut : (b : RecvStage W) (n : ℕ) (h g : maybe.Option (Slot T W)) → Legal fits Shut b n h g → SendTurn fits ([]) (λ n. bit_xor n 1) (flips fits (step 2 0 1 0 maybe.none) (Sends Shut, [])) b n h g
  flips_shut Ended n h g l = rw l.0 (Gone, (keeps, h, g, tt, refl, inr refl, refl))
  flips_shut other n h g l = absurd l

  leaves_each : (y : Slot T W) → (b : RecvStage W) (n : ℕ) (h g : maybe.Option (Slot T W)) → Legal fits Leaving b n h g → SendTurn fits ((1, y) ∷ []) (λ _. 2) (leaves fits (step 2 0 2 0 maybe.none) (Sends Leaving, (1, y) ∷ [])) b n h g
  leaves_each y (Published w) n h g l = (Gone, (keeps, h, g, tt, refl, refl, refl))
  leaves_each y Woken n h g l = (Gone, (keeps, h, g, tt, refl, refl, refl))
  leaves_each y Ended n h g l = (Gone, (keeps, h, g, tt, refl, inl refl, refl))
  leaves_each y other n h g l = absurd l

  looks_waiting : (a : SendStage) (n : ℕ) (h g : maybe.Option (Slot T W)) → Legal fits a Waiting n h g → RecvTurn fits ([]) (λ n. n) (looks fits (step 2 0 0 0 maybe.none) (Receives Waiting, [])) a n h g
  looks_waiting Ready n h g l = rw l.0 (Waiting, (keeps, h, g, tt, refl, (refl, l.1, l.2), ((refl, refl, refl), (λ e. absurd (waiting_full e)), (λ e. absurd (waiting_over e)))))
  looks_waiting Writing n h g l = rw l.0 (Waiting, (keeps, h, g, tt, refl, (refl, l.1), ((refl, refl, refl), (λ e. absurd (waiting_full e)), (λ e. absurd (waiting_over e)))))
  looks_waiting Sent n h g l = rw l.0 (Full, (keeps, h, g, tt, refl, (refl, l.1), (refl, (λ e. absurd (waiting_full e)), (λ e. absurd (waiting_over e)))))
  looks_waiting Gone n h g l = rw l (Closed, (keeps, h, g, tt, refl, refl, ((inr refl, refl), (λ e. absurd (waiting_full e)), (λ e. absurd (waiting_over e)))))
  looks_waiting other n h g l = absurd l

  looks_full : (c : List (ℕ × Slot T W)) → (a : SendStage) (n : ℕ) (h g : maybe.Option (Slot T W)) → Legal fits a Full n h g → RecvTurn fits (c) (λ n. n) (looks fits (step 2 0 0 0 maybe.none) (Receives Full, c)) a n h g
  looks_full c Sent n h g l = rw l.0 (Full, (keeps, h, g, tt, refl, (refl, l.1), (refl, (λ e. refl), (λ e. absurd (full_over e)))))
  looks_full c other n h g l = absurd l

  looks_received : (c : List (ℕ × Slot T W)) → (a : SendStage) (n : ℕ) (h g : maybe.Option (Slot T W)) → Legal fits a Received n h g → RecvTurn fits (c) (λ n. n) (looks fits (step 2 0 0 0 maybe.none) (Receives Received, c)) a n h g
  looks_received c Sent n h g l = rw l (Received, (keeps, h, g, tt, refl, refl, ((inl (refl, refl), refl), (λ e. absurd (full_received (sym e))), (λ e. (refl, refl)))))
  looks_received c other n h g l = absurd l

  looks_closed : (c : List (ℕ × Slot T W)) → (a : SendStage) (n : ℕ) (h g : maybe.Option (Slot T W)) → Legal fits a Closed n h g → RecvTurn fits (c) (λ n. n) (looks fits (step 2 0 0 0 maybe.none) (Receives Closed, c)) a n h g
  looks_closed c Gone n h g l = rw l (Closed, (keeps, h, g, tt, refl, refl, ((inr refl, refl), (λ e. absurd (full_closed (sym e))), (λ e. (refl, refl)))))
  looks_closed c other n h g l = absurd l

  grasps_waiting : (a : SendStage) (n : ℕ) (h g : maybe.Option (Slot T W)) → Legal fits a Waiting n h g → RecvTurn fits ([]) (λ n. n) (grasps fits (step 2 0 0 0 maybe.none) (Receives Waiting, [])) a n h g
  grasps_waiting Ready n h g l = rw l.0 (Holding, (takes 1 None, h, maybe.none, ap maybe.some l.2, refl, (refl, l.1), ((refl, refl), (λ e. absurd (waiting_full e)), (λ e. absurd (waiting_over e)))))
  grasps_waiting Writing n h g l = rw l.0 (Holding, (takes 1 None, h, maybe.none, ap maybe.some l.1, refl, refl, ((refl, refl), (λ e. absurd (waiting_full e)), (λ e. absurd (waiting_over e)))))
  grasps_waiting Sent n h g l = rw l.0 (Full, (keeps, h, g, tt, refl, (refl, l.1), (refl, (λ e. absurd (waiting_full e)), (λ e. absurd (waiting_over e)))))
  grasps_waiting Gone n h g l = rw l (Closed, (keeps, h, g, tt, refl, refl, ((inr refl, refl), (λ e. absurd (waiting_full e)), (λ e. absurd (waiting_over e)))))
  grasps_waiting other n h g l = absurd l

  grasps_full : (c : List (ℕ × Slot T W)) → (a : SendStage) (n : ℕ) (h g : maybe.Option (Slot T W)) → Legal fits a Full n h g → RecvTurn fits (c) (λ n. n) (grasps fits (step 2 0 0 0 maybe.none) (Receives Full, c)) a n h g
  grasps_full c Sent n h g l = rw l.0 (Full, (keeps, h, g, tt, refl, (refl, l.1), (refl, (λ e. refl), (λ e. absurd (full_over e)))))
  grasps_full c other n h g l = absurd l

  grasps_received : (c : List (ℕ × Slot T W)) → (a : SendStage) (n : ℕ) (h g : maybe.Option (Slot T W)) → Legal fits a Received n h g → RecvTurn fits (c) (λ n. n) (grasps fits (step 2 0 0 0 maybe.none) (Receives Received, c)) a n h g
  grasps_received c Sent n h g l = rw l (Received, (keeps, h, g, tt, refl, refl, ((inl (refl, refl), refl), (λ e. absurd (full_received (sym e))), (λ e. (refl, refl)))))
  grasps_received c other n h g l = absurd l

  grasps_closed : (c : List (ℕ × Slot T W)) → (a : SendStage) (n : ℕ) (h g : maybe.Option (Slot T W)) → Legal fits a Closed n h g → RecvTurn fits (c) (λ n. n) (grasps fits (step 2 0 0 0 maybe.none) (Receives Closed, c)) a n h g
  grasps_closed c Gone n h g l = rw l (Closed, (keeps, h, g, tt, refl, refl, ((inr refl, refl), (λ e. absurd (full_closed (sym e))), (λ e. (refl, refl)))))
  grasps_closed c other n h g l = absurd l

  publishes_each : (w : W) → (a : SendStage) (n : ℕ) (h g : maybe.Option (Slot T W)) → Legal fits a Holding n h g → RecvTurn fits ((1, Some (Waker w)) ∷ []) (λ n. either (n == 3) 0 n) (publishes fits (step 2 0 3 0 maybe.none) (Receives Holding, (1, Some (Waker w)) ∷ [])) a n h g
  publishes_each w Ready n h g l = rw l.0 (Published w, (gives, h, maybe.some (Some (Waker w)), tt, refl, (refl, l.1, refl), (w, refl, refl)))
  publishes_each w Writing n h g l = rw l (Published w, (gives, h, maybe.some (Some (Waker w)), tt, refl, (refl, refl), (w, refl, refl)))
  publishes_each w Sent n h g l = rw l.0 (Full, (keeps, h, g, tt, refl, (refl, l.1), refl))
  publishes_each w Gone n h g l = rw l (Closed, (keeps, h, g, tt, refl, refl, (refl, refl)))
  publishes_each w other n h g l = absurd l

  reclaims_published : (w : W) → (a : SendStage) (n : ℕ) (h g : maybe.Option (Slot T W)) → Legal fits a (Published w) n h g → RecvTurn fits ([]) (λ n. either (n == 0) 3 n) (reclaims fits (step 2 0 0 3 maybe.none) (Receives (Published w), [])) a n h g
  reclaims_published w Ready n h g l = rw l.0 (Holding, (takes 1 (Some (Waker w)), h, maybe.none, ap maybe.some l.2, refl, (refl, l.1), (w, refl)))
  reclaims_published w Writing n h g l = rw l.0 (Holding, (takes 1 (Some (Waker w)), h, maybe.none, ap maybe.some l.1, refl, refl, (w, refl)))
  reclaims_published w Finishing n h g l = rw l (Woken, (keeps, h, g, tt, refl, refl, refl))
  reclaims_published w Leaving n h g l = rw l (Woken, (keeps, h, g, tt, refl, refl, refl))
  reclaims_published w Sent n h g l = rw l.0 (Full, (keeps, h, g, tt, refl, (refl, l.1), refl))
  reclaims_published w Gone n h g l = rw l (Closed, (keeps, h, g, tt, refl, refl, (refl, refl)))
  reclaims_published w other n h g l = absurd l

  reclaims_woken : (a : SendStage) (n : ℕ) (h g : maybe.Option (Slot T W)) → Legal fits a Woken n h g → RecvTurn fits ([]) (λ n. either (n == 0) 3 n) (reclaims fits (step 2 0 0 3 maybe.none) (Receives Woken, [])) a n h g
  reclaims_woken Finishing n h g l = rw l (Woken, (keeps, h, g, tt, refl, refl, refl))
  reclaims_woken Leaving n h g l = rw l (Woken, (keeps, h, g, tt, refl, refl, refl))
  reclaims_woken Sent n h g l = rw l.0 (Full, (keeps, h, g, tt, refl, (refl, l.1), refl))
  reclaims_woken Gone n h g l = rw l (Closed, (keeps, h, g, tt, refl, refl, (refl, refl)))
  reclaims_woken other n h g l = absurd l

  takes_full : (c : List (ℕ × Slot T W)) → (a : SendStage) (n : ℕ) (h g : maybe.Option (Slot T W)) → Legal fits a Full n h g → RecvTurn fits (c) (λ _. 2) (takes_message fits (step 2 0 2 0 maybe.none) (Receives Full, c)) a n h g
  takes_full c Sent n h g l = (Received, (takes 0 (Some (Message l.1.0)), maybe.none, g, ap maybe.some l.1.2, refl, refl, (l.1.0, l.1.1, refl)))
  takes_full c other n h g l = absurd l

  closes_waiting : (c : List (ℕ × Slot T W)) → (a : SendStage) (n : ℕ) (h g : maybe.Option (Slot T W)) → Legal fits a Waiting n h g → RecvTurn fits (c) (λ _. 2) (closes fits (step 2 0 2 0 maybe.none) (Receives Waiting, c)) a n h g
  closes_waiting c Ready n h g l = rw l.0 (Ended, (keeps, h, g, tt, refl, (refl, l.1), refl))
  closes_waiting c Writing n h g l = rw l.0 (Ended, (keeps, h, g, tt, refl, refl, refl))
  closes_waiting c Sent n h g l = rw l.0 (Ended, (takes 0 (Some (Message l.1.0)), maybe.none, g, ap maybe.some l.1.2, refl, refl, (l.1.0, refl)))
  closes_waiting c Gone n h g l = rw l (Ended, (keeps, h, g, tt, refl, inl refl, refl))
  closes_waiting c other n h g l = absurd l

  closes_holding : (c : List (ℕ × Slot T W)) → (a : SendStage) (n : ℕ) (h g : maybe.Option (Slot T W)) → Legal fits a Holding n h g → RecvTurn fits (c) (λ _. 2) (closes fits (step 2 0 2 0 maybe.none) (Receives Holding, c)) a n h g
  closes_holding c Ready n h g l = rw l.0 (Ended, (keeps, h, g, tt, refl, (refl, l.1), refl))
  closes_holding c Writing n h g l = rw l (Ended, (keeps, h, g, tt, refl, refl, refl))
  closes_holding c Sent n h g l = rw l.0 (Ended, (takes 0 (Some (Message l.1.0)), maybe.none, g, ap maybe.some l.1.2, refl, refl, (l.1.0, refl)))
  closes_holding c Gone n h g l = rw l (Ended, (keeps, h, g, tt, refl, inl refl, refl))
  closes_holding c other n h g l = absurd l

  closes_woken : (c : List (ℕ × Slot T W)) → (a : SendStage) (n : ℕ) (h g : maybe.Option (Slot T W)) → Legal fits a Woken n h g → RecvTurn fits (c) (λ _. 2) (closes fits (step 2 0 2 0 maybe.none) (Receives Woken, c)) a n h g
  closes_woken c Finishing n h g l = rw l (Ended, (keeps, h, g, tt, refl, refl, refl))
  closes_woken c Leaving n h g l = rw l (Ended, (keeps, h, g, tt, refl, refl, refl))
  closes_woken c Sent n h g l = rw l.0 (Ended, (takes 0 (Some (Message l.1.0)), maybe.none, g, ap maybe.some l.1.2, refl, refl, (l.1.0, refl)))
  closes_woken c Gone n h g l = rw l (Ended, (keeps, h, g, tt, refl, inl refl, refl))
  closes_woken c other n h g l = absurd l

  closes_full : (c : List (ℕ × Slot T W)) → (a : SendStage) (n : ℕ) (h g : maybe.Option (Slot T W)) → Legal fits a Full n h g → RecvTurn fits (c) (λ _. 2) (closes fits (step 2 0 2 0 maybe.none) (Receives Full, c)) a n h g
  closes_full c Sent n h g l = rw l.0 (Ended, (takes 0 (Some (Message l.1.0)), maybe.none, g, ap maybe.some l.1.2, refl, refl, (l.1.0, refl)))
  closes_full c other n h g l = absurd l

  closes_received : (c : List (ℕ × Slot T W)) → (a : SendStage) (n : ℕ) (h g : maybe.Option (Slot T W)) → Legal fits a Received n h g → RecvTurn fits (c) (λ _. 2) (closes fits (step 2 0 2 0 maybe.none) (Receives Received, c)) a n h g
  closes_received c Sent n h g l = rw l (Ended, (keeps, h, g, tt, refl, refl, refl))
  closes_received c other n h g l = absurd l

  closes_closed : (c : List (ℕ × Slot T W)) → (a : SendStage) (n : ℕ) (h g : maybe.Option (Slot T W)) → Legal fits a Closed n h g → RecvTurn fits (c) (λ _. 2) (closes fits (step 2 0 2 0 maybe.none) (Receives Closed, c)) a n h g
  closes_closed c Gone n h g l = rw l (Ended, (keeps, h, g, tt, refl, inl refl, refl))
  closes_closed c other n h g l = absurd l

  pub open_allowed : (id : ℕ) (v : View W) → IsSender v → Allows (Holds fits) 2 id (v, []) 0 (λ n. n) (opens fits (step 2 0 0 0 maybe.none) (v, []))
  open_allowed id v s =
      elim s [
        | inl e ↦ rw e (sends fits 2 id Ready ([]) (λ n. n) (opens fits (step 2 0 0 0 maybe.none) (Sends Ready, [])) opens_ready)
        | inr e ↦ rw e (sends fits 2 id Shut ([]) (λ n. n) (opens fits (step 2 0 0 0 maybe.none) (Sends Shut, [])) opens_shut)
      ]

  pub ask_allowed : (id : ℕ) (v : View W) → IsSender v → Allows (Holds fits) 2 id (v, []) 0 (λ n. n) (asks fits (step 2 0 0 0 maybe.none) (v, []))
  ask_allowed id v s =
      elim s [
        | inl e ↦ rw e (sends fits 2 id Ready ([]) (λ n. n) (asks fits (step 2 0 0 0 maybe.none) (Sends Ready, [])) asks_ready)
        | inr e ↦ rw e (sends fits 2 id Shut ([]) (λ n. n) (asks fits (step 2 0 0 0 maybe.none) (Sends Shut, [])) asks_shut)
      ]

  pub flip_allowed : (id : ℕ) (v : View W) → IsSender v → Allows (Holds fits) 2 id (v, []) 0 (λ n. bit_xor n 1) (flips fits (step 2 0 1 0 maybe.none) (v, []))
  flip_allowed id v s =
      elim s [
        | inl e ↦ rw e (sends fits 2 id Ready ([]) (λ n. bit_xor n 1) (flips fits (step 2 0 1 0 maybe.none) (Sends Ready, [])) flips_ready)
        | inr e ↦ rw e (sends fits 2 id Shut ([]) (λ n. bit_xor n 1) (flips fits (step 2 0 1 0 maybe.none) (Sends Shut, [])) flips_shut)
      ]

  pub put_allowed : (id : ℕ) (v : View W) (x : T) → fits x → IsWriting v → Allows (Holds fits) 2 id (v, (0, Some (Message x)) ∷ []) 0 (λ n. (n + 1) % 2 ^ 64) (puts fits (step 2 0 1 0 maybe.none) (v, (0, Some (Message x)) ∷ []))
  put_allowed id v x ok s =
      elim s [
        | inl e ↦ rw e (sends fits 2 id Writing ((0, Some (Message x)) ∷ []) (λ n. (n + 1) % 2 ^ 64) (puts fits (step 2 0 1 0 maybe.none) (Sends Writing, (0, Some (Message x)) ∷ [])) (puts_open x ok))
        | inr e ↦ rw e (sends fits 2 id WritingShut ((0, Some (Message x)) ∷ []) (λ n. (n + 1) % 2 ^ 64) (puts fits (step 2 0 1 0 maybe.none) (Sends WritingShut, (0, Some (Message x)) ∷ [])) (puts_shut x ok))
      ]

  pub finish_allowed : (id : ℕ) (x : T) (y : Slot T W) → fits x → Allows (Holds fits) 2 id (Sends Finishing, (0, Some (Message x)) ∷ (1, y) ∷ []) 0 (λ _. 4) (finishes fits (step 2 0 4 0 maybe.none) (Sends Finishing, (0, Some (Message x)) ∷ (1, y) ∷ []))
  finish_allowed id x y ok = sends fits 2 id Finishing ((0, Some (Message x)) ∷ (1, y) ∷ []) (λ _. 4) (finishes fits (step 2 0 4 0 maybe.none) (Sends Finishing, (0, Some (Message x)) ∷ (1, y) ∷ [])) (finishes_each x y ok)

  pub leave_allowed : (id : ℕ) (y : Slot T W) → Allows (Holds fits) 2 id (Sends Leaving, (1, y) ∷ []) 0 (λ _. 2) (leaves fits (step 2 0 2 0 maybe.none) (Sends Leaving, (1, y) ∷ []))
  leave_allowed id y = sends fits 2 id Leaving ((1, y) ∷ []) (λ _. 2) (leaves fits (step 2 0 2 0 maybe.none) (Sends Leaving, (1, y) ∷ [])) (leaves_each y)

  look_again_allowed : (id : ℕ) (v : View W) (c : List (ℕ × Slot T W)) → (v ≡ Receives Full) ⊎ IsOver v → Allows (Holds fits) 2 id (v, c) 0 (λ n. n) (looks fits (step 2 0 0 0 maybe.none) (v, c))
  look_again_allowed id v c s =
      elim s [
        | inl e ↦ rw e (receives fits 2 id Full (c) (λ n. n) (looks fits (step 2 0 0 0 maybe.none) (Receives Full, c)) (looks_full c))
        | inr o ↦ elim o [
          | inl e ↦ rw e (receives fits 2 id Received (c) (λ n. n) (looks fits (step 2 0 0 0 maybe.none) (Receives Received, c)) (looks_received c))
          | inr e ↦ rw e (receives fits 2 id Closed (c) (λ n. n) (looks fits (step 2 0 0 0 maybe.none) (Receives Closed, c)) (looks_closed c))
        ]
      ]

  pub look_allowed : (id : ℕ) (me : Me (Slot T W) (View W)) → IsUnpublished me → Allows (Holds fits) 2 id me 0 (λ n. n) (looks fits (step 2 0 0 0 maybe.none) me)
  look_allowed id me s =
      elim s [
        | inl e ↦ rw e (receives fits 2 id Waiting ([]) (λ n. n) (looks fits (step 2 0 0 0 maybe.none) (Receives Waiting, [])) looks_waiting)
        | inr t ↦ look_again_allowed id me.0 me.1 t
      ]

  grasp_again_allowed : (id : ℕ) (v : View W) (c : List (ℕ × Slot T W)) → (v ≡ Receives Full) ⊎ IsOver v → Allows (Holds fits) 2 id (v, c) 0 (λ n. n) (grasps fits (step 2 0 0 0 maybe.none) (v, c))
  grasp_again_allowed id v c s =
      elim s [
        | inl e ↦ rw e (receives fits 2 id Full (c) (λ n. n) (grasps fits (step 2 0 0 0 maybe.none) (Receives Full, c)) (grasps_full c))
        | inr o ↦ elim o [
          | inl e ↦ rw e (receives fits 2 id Received (c) (λ n. n) (grasps fits (step 2 0 0 0 maybe.none) (Receives Received, c)) (grasps_received c))
          | inr e ↦ rw e (receives fits 2 id Closed (c) (λ n. n) (grasps fits (step 2 0 0 0 maybe.none) (Receives Closed, c)) (grasps_closed c))
        ]
      ]

  pub grasp_allowed : (id : ℕ) (me : Me (Slot T W) (View W)) → IsUnpublished me → Allows (Holds fits) 2 id me 0 (λ n. n) (grasps fits (step 2 0 0 0 maybe.none) me)
  grasp_allowed id me s =
      elim s [
        | inl e ↦ rw e (receives fits 2 id Waiting ([]) (λ n. n) (grasps fits (step 2 0 0 0 maybe.none) (Receives Waiting, [])) grasps_waiting)
        | inr t ↦ grasp_again_allowed id me.0 me.1 t
      ]

  pub publish_allowed : (id : ℕ) (w : W) → Allows (Holds fits) 2 id (Receives Holding, (1, Some (Waker w)) ∷ []) 0 (λ n. either (n == 3) 0 n) (publishes fits (step 2 0 3 0 maybe.none) (Receives Holding, (1, Some (Waker w)) ∷ []))
  publish_allowed id w = receives fits 2 id Holding ((1, Some (Waker w)) ∷ []) (λ n. either (n == 3) 0 n) (publishes fits (step 2 0 3 0 maybe.none) (Receives Holding, (1, Some (Waker w)) ∷ [])) (publishes_each w)

  pub reclaim_allowed : (id : ℕ) (me : Me (Slot T W) (View W)) → IsPublished me → Allows (Holds fits) 2 id me 0 (λ n. either (n == 0) 3 n) (reclaims fits (step 2 0 0 3 maybe.none) me)
  reclaim_allowed id me s =
      elim s [
        | inl e ↦ rw e.1 (receives fits 2 id (Published e.0) ([]) (λ n. either (n == 0) 3 n) (reclaims fits (step 2 0 0 3 maybe.none) (Receives (Published e.0), [])) (reclaims_published e.0))
        | inr e ↦ rw e (receives fits 2 id Woken ([]) (λ n. either (n == 0) 3 n) (reclaims fits (step 2 0 0 3 maybe.none) (Receives Woken, [])) reclaims_woken)
      ]

  pub take_allowed : (id : ℕ) (v : View W) (c : List (ℕ × Slot T W)) → v ≡ Receives Full → Allows (Holds fits) 2 id (v, c) 0 (λ _. 2) (takes_message fits (step 2 0 2 0 maybe.none) (v, c))
  take_allowed id v c e = rw e (receives fits 2 id Full (c) (λ _. 2) (takes_message fits (step 2 0 2 0 maybe.none) (Receives Full, c)) (takes_full c))

  abbrev Ends : View W → Type 0
  Ends v = (v ≡ Receives Waiting) ⊎ (v ≡ Receives Holding) ⊎ (v ≡ Receives Woken) ⊎ (v ≡ Receives Full) ⊎ IsOver v

  pub close_allowed : (id : ℕ) (v : View W) (c : List (ℕ × Slot T W)) → Ends v → Allows (Holds fits) 2 id (v, c) 0 (λ _. 2) (closes fits (step 2 0 2 0 maybe.none) (v, c))
  close_allowed id v c s =
      elim s [
        | inl e ↦ rw e (receives fits 2 id Waiting (c) (λ _. 2) (closes fits (step 2 0 2 0 maybe.none) (Receives Waiting, c)) (closes_waiting c))
        | inr s1 ↦ elim s1 [
          | inl e ↦ rw e (receives fits 2 id Holding (c) (λ _. 2) (closes fits (step 2 0 2 0 maybe.none) (Receives Holding, c)) (closes_holding c))
          | inr s2 ↦ elim s2 [
            | inl e ↦ rw e (receives fits 2 id Woken (c) (λ _. 2) (closes fits (step 2 0 2 0 maybe.none) (Receives Woken, c)) (closes_woken c))
            | inr s3 ↦ elim s3 [
              | inl e ↦ rw e (receives fits 2 id Full (c) (λ _. 2) (closes fits (step 2 0 2 0 maybe.none) (Receives Full, c)) (closes_full c))
              | inr o ↦ elim o [
                | inl e ↦ rw e (receives fits 2 id Received (c) (λ _. 2) (closes fits (step 2 0 2 0 maybe.none) (Receives Received, c)) (closes_received c))
                | inr e ↦ rw e (receives fits 2 id Closed (c) (λ _. 2) (closes fits (step 2 0 2 0 maybe.none) (Receives Closed, c)) (closes_closed c))
              ]
            ]
          ]
        ]
      ]
