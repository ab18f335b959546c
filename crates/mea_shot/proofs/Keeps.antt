-- A step of an end keeps the rule, where each case of the stages does.
use Rattle.std.proofs.Common.{◌≡◌, ℕ, zero, suc, List, [], ◌∷◌, refl, sym, ◌∙◌, ap, subst, inl, inr}
use Rattle.std.specs.List.{slice_index}
use mathlib.Core.Option as maybe
use mathlib.Core.Option.{some-injective, some-ne-none}
use lib.ListN.{get_elem?}
use Rattle.atomic_table.specs.Table.{State, Me, Act, Valid, Allows, homes_after, carried_after, stepped}
use Rattle.mea_shot.specs.Rule.{Holds, IsParted, Legal, Slot}
use Rattle.mea_shot.specs.declared.view.View.{View}
use Rattle.mea_shot.specs.declared.view.View.TheVariants.{Whole, Sends, Receives}
use Rattle.mea_shot.specs.declared.view.SendStage.{SendStage}
use Rattle.mea_shot.specs.declared.view.SendStage.TheVariants.{Ready}
use Rattle.mea_shot.specs.declared.view.RecvStage.{RecvStage}
use Rattle.mea_shot.specs.declared.view.RecvStage.TheVariants.{Waiting}

abbrev send_stage : {W : Type 0} → View W → SendStage
send_stage Whole = Ready
send_stage (Sends a) = a
send_stage (Receives b) = Ready

abbrev recv_stage : {W : Type 0} → View W → RecvStage W
recv_stage Whole = Waiting
recv_stage (Sends a) = Waiting
recv_stage (Receives b) = b

whole_sends : {W : Type 0} (a : SendStage) → ◌≡◌ {A = View W} Whole (Sends a) → ⊥
whole_sends a e = cc

whole_receives : {W : Type 0} (b : RecvStage W) → Whole ≡ Receives b → ⊥
whole_receives b e = cc

receives_sends : {W : Type 0} (b : RecvStage W) (a : SendStage) → Receives b ≡ Sends a → ⊥
receives_sends b a e = cc

no_sender : {W : Type 0} (id : ℕ) (a : SendStage) → ◌≡◌ {A = maybe.Option (View W)} (get_elem? (Whole ∷ []) id) (maybe.some (Sends a)) → ⊥
no_sender zero a e = whole_sends a (some-injective Whole (Sends a) e)
no_sender (suc k) a e = some-ne-none (Sends a) (sym e)

no_receiver : {W : Type 0} (id : ℕ) (b : RecvStage W) → get_elem? (Whole ∷ []) id ≡ maybe.some (Receives b) → ⊥
no_receiver zero b e = whole_receives b (some-injective Whole (Receives b) e)
no_receiver (suc k) b e = some-ne-none (Receives b) (sym e)

first_sender : {W : Type 0} (id : ℕ) (a₀ a : SendStage) (b : RecvStage W) → get_elem? (Sends a₀ ∷ Receives b ∷ []) id ≡ maybe.some (Sends a) → (id ≡ 0) × (a₀ ≡ a)
first_sender zero a₀ a b e = (refl, ap send_stage (some-injective (Sends a₀) (Sends a) e))
first_sender (suc zero) a₀ a b e = absurd (receives_sends b a (some-injective (Receives b) (Sends a) e))
first_sender (suc (suc k)) a₀ a b e = absurd (some-ne-none (Sends a) (sym e))

second_receiver : {W : Type 0} (id : ℕ) (a : SendStage) (b₀ b : RecvStage W) → get_elem? (Sends a ∷ Receives b₀ ∷ []) id ≡ maybe.some (Receives b) → (id ≡ 1) × (b₀ ≡ b)
second_receiver zero a b₀ b e = absurd (receives_sends b a (sym (some-injective (Sends a) (Receives b) e)))
second_receiver (suc zero) a b₀ b e = (refl, ap recv_stage (some-injective (Receives b₀) (Receives b) e))
second_receiver (suc (suc k)) a b₀ b e = absurd (some-ne-none (Receives b) (sym e))

module _ {T W : Type 0} (fits : T → Type 0) where
  -- what a case of a step gives, by the stages afterwards
  abbrev pub Turn : List (ℕ × Slot T W) → (ℕ → ℕ) → (ℕ → Me (Slot T W) (View W) → Type 0) → View W → SendStage → RecvStage W → ℕ → maybe.Option (Slot T W) → maybe.Option (Slot T W) → Type 0
  Turn c f then w a b n h g =
      (act : Act (Slot T W)) × (h' : maybe.Option (Slot T W)) × (g' : maybe.Option (Slot T W))
      × Valid (h ∷ g ∷ []) c act × (homes_after (h ∷ g ∷ []) c act ≡ h' ∷ g' ∷ []) × Legal fits a b (f n) h' g' × then n (w, carried_after c act)

  abbrev pub SendTurn : List (ℕ × Slot T W) → (ℕ → ℕ) → (ℕ → Me (Slot T W) (View W) → Type 0) → RecvStage W → ℕ → maybe.Option (Slot T W) → maybe.Option (Slot T W) → Type 0
  SendTurn c f then b n h g = (a : SendStage) × Turn c f then (Sends a) a b n h g

  abbrev pub RecvTurn : List (ℕ × Slot T W) → (ℕ → ℕ) → (ℕ → Me (Slot T W) (View W) → Type 0) → SendStage → ℕ → maybe.Option (Slot T W) → maybe.Option (Slot T W) → Type 0
  RecvTurn c f then a n h g = (b : RecvStage W) × Turn c f then (Receives b) a b n h g

  abbrev Asks : ℕ → List (ℕ × Slot T W) → (ℕ → ℕ) → (ℕ → Me (Slot T W) (View W) → Type 0) → List ℕ → List (maybe.Option (Slot T W)) → List (View W) → Type 0
  Asks id c f then words homes views =
      (w : View W) × (a : Act (Slot T W)) × Valid homes c a × Holds fits (stepped (record { words = words; homes = homes; views = views }) 0 (f (slice_index words 0)) id c w a)
      × then (slice_index words 0) (w, carried_after c a)

  placed : (id k : ℕ) (c : List (ℕ × Slot T W)) (f : ℕ → ℕ) (then : ℕ → Me (Slot T W) (View W) → Type 0) (s : State (Slot T W) (View W))
      (n : ℕ) (h g : maybe.Option (Slot T W)) (vs : List (View W)) → s.words ≡ n ∷ [] → s.homes ≡ h ∷ g ∷ [] → s.views ≡ vs → id ≡ k
      → Asks k c f then (n ∷ []) (h ∷ g ∷ []) vs → Asks id c f then s.words s.homes s.views
  placed id k c f then s n h g vs we he ve ie at =
      let ws : Asks k c f then s.words (h ∷ g ∷ []) vs = subst (λ ws. Asks k c f then ws (h ∷ g ∷ []) vs) (sym we) at in
      let hs : Asks k c f then s.words s.homes vs = subst (λ hs. Asks k c f then s.words hs vs) (sym he) ws in
      let ts : Asks k c f then s.words s.homes s.views = subst (λ ts. Asks k c f then s.words s.homes ts) (sym ve) hs in
      subst (λ i. Asks i c f then s.words s.homes s.views) (sym ie) ts

  sender_at : (c : List (ℕ × Slot T W)) (f : ℕ → ℕ) (then : ℕ → Me (Slot T W) (View W) → Type 0) (a : SendStage) (b : RecvStage W) (n : ℕ) (h g : maybe.Option (Slot T W))
      → SendTurn c f then b n h g → Asks 0 c f then (n ∷ []) (h ∷ g ∷ []) (Sends a ∷ Receives b ∷ [])
  sender_at c f then a b n h g t = (Sends t.0, t.1.0, t.1.3, inr (t.0, b, f n, t.1.1, t.1.2, refl, t.1.4, refl, t.1.5), t.1.6)

  receiver_at : (c : List (ℕ × Slot T W)) (f : ℕ → ℕ) (then : ℕ → Me (Slot T W) (View W) → Type 0) (a : SendStage) (b : RecvStage W) (n : ℕ) (h g : maybe.Option (Slot T W))
      → RecvTurn c f then a n h g → Asks 1 c f then (n ∷ []) (h ∷ g ∷ []) (Sends a ∷ Receives b ∷ [])
  receiver_at c f then a b n h g t = (Receives t.0, t.1.0, t.1.3, inr (a, t.0, f n, t.1.1, t.1.2, refl, t.1.4, refl, t.1.5), t.1.6)

  send_parted : (id : ℕ) (a : SendStage) (c : List (ℕ × Slot T W)) (f : ℕ → ℕ) (then : ℕ → Me (Slot T W) (View W) → Type 0)
      → ((b : RecvStage W) (n : ℕ) (h g : maybe.Option (Slot T W)) → Legal fits a b n h g → SendTurn c f then b n h g)
      → (s : State (Slot T W) (View W)) → IsParted fits s → get_elem? s.views id ≡ maybe.some (Sends a) → Asks id c f then s.words s.homes s.views
  send_parted id a c f then each s p view =
      let is = first_sender id p.0 a p.1 (ap (λ vs. get_elem? vs id) (sym p.7) ∙ view) in
      let legal : Legal fits a p.1 p.2 p.3 p.4 = subst (λ x. Legal fits x p.1 p.2 p.3 p.4) is.1 p.8 in
      placed id 0 c f then s p.2 p.3 p.4 (Sends p.0 ∷ Receives p.1 ∷ []) p.5 p.6 p.7 is.0 (sender_at c f then p.0 p.1 p.2 p.3 p.4 (each p.1 p.2 p.3 p.4 legal))

  recv_parted : (id : ℕ) (b : RecvStage W) (c : List (ℕ × Slot T W)) (f : ℕ → ℕ) (then : ℕ → Me (Slot T W) (View W) → Type 0)
      → ((a : SendStage) (n : ℕ) (h g : maybe.Option (Slot T W)) → Legal fits a b n h g → RecvTurn c f then a n h g)
      → (s : State (Slot T W) (View W)) → IsParted fits s → get_elem? s.views id ≡ maybe.some (Receives b) → Asks id c f then s.words s.homes s.views
  recv_parted id b c f then each s p view =
      let is = second_receiver id p.0 p.1 b (ap (λ vs. get_elem? vs id) (sym p.7) ∙ view) in
      let legal : Legal fits p.0 b p.2 p.3 p.4 = subst (λ x. Legal fits p.0 x p.2 p.3 p.4) is.1 p.8 in
      placed id 1 c f then s p.2 p.3 p.4 (Sends p.0 ∷ Receives p.1 ∷ []) p.5 p.6 p.7 is.0 (receiver_at c f then p.0 p.1 p.2 p.3 p.4 (each p.0 p.2 p.3 p.4 legal))

  pub sends : (slots id : ℕ) (a : SendStage) (c : List (ℕ × Slot T W)) (f : ℕ → ℕ) (then : ℕ → Me (Slot T W) (View W) → Type 0)
      → ((b : RecvStage W) (n : ℕ) (h g : maybe.Option (Slot T W)) → Legal fits a b n h g → SendTurn c f then b n h g)
      → Allows (Holds fits) slots id (Sends a, c) 0 f then
  sends slots id a c f then each s holds len view fit =
      elim holds [
        | inl o ↦ absurd (no_sender id a (ap (λ vs. get_elem? vs id) (sym o.2) ∙ view))
        | inr p ↦ send_parted id a c f then each s p view
      ]

  pub receives : (slots id : ℕ) (b : RecvStage W) (c : List (ℕ × Slot T W)) (f : ℕ → ℕ) (then : ℕ → Me (Slot T W) (View W) → Type 0)
      → ((a : SendStage) (n : ℕ) (h g : maybe.Option (Slot T W)) → Legal fits a b n h g → RecvTurn c f then a n h g)
      → Allows (Holds fits) slots id (Receives b, c) 0 f then
  receives slots id b c f then each s holds len view fit =
      elim holds [
        | inl o ↦ absurd (no_receiver id b (ap (λ vs. get_elem? vs id) (sym o.2) ∙ view))
        | inr p ↦ recv_parted id b c f then each s p view
      ]
