-- What a wait may give, seen through the value that keeps it.
use Rattle.std.proofs.Common.{Result, Ok, Err, IfOk, ◌≡◌, subst}
use Rattle.futures.specs.Poll.{OnPending}
use Rattle.futures.specs.declared.task.Poll.{Poll}
use Rattle.futures.specs.declared.task.Poll.TheVariants.{Ready, Pending}

module _ {K P E : Type 0} (value : K → P) (A B : P → Type 0) where
  -- where outputs of the later state are outputs of the earlier one, so are kept outputs
  outputs : ((x : Result P E) → IfOk x A → IfOk x B) → (x : Result K E) → IfOk x (λ k. A (value k)) → IfOk x (λ k. B (value k))
  outputs same (Ok k) given = same (Ok (value k)) given
  outputs same (Err e) given = tt

  pub keeps_outputs : (polled : Poll (Result P E)) → polled ≡ Pending → OnPending polled ((x : Result P E) → IfOk x A → IfOk x B) → (x : Result K E) → IfOk x (λ k. A (value k)) → IfOk x (λ k. B (value k))
  keeps_outputs polled is same = outputs (subst (λ p. OnPending p ((x : Result P E) → IfOk x A → IfOk x B)) is same)

module _ {K P E F : Type 0} (value : K → P) (A B : Result P E → Type 0) where
  -- the same of outputs that may be errors
  tries : ((x : Result (Result P E) F) → IfOk x A → IfOk x B) → (x : Result (Result K E) F) → IfOk x (λ o. IfOk o (λ k. A (Ok (value k)))) → IfOk x (λ o. IfOk o (λ k. B (Ok (value k))))
  tries same (Ok (Ok k)) given = same (Ok (Ok (value k))) given
  tries same (Ok (Err e)) given = tt
  tries same (Err e) given = tt

  pub keeps_tries : (polled : Poll (Result (Result P E) F)) → polled ≡ Pending → OnPending polled ((x : Result (Result P E) F) → IfOk x A → IfOk x B) → (x : Result (Result K E) F) → IfOk x (λ o. IfOk o (λ k. A (Ok (value k)))) → IfOk x (λ o. IfOk o (λ k. B (Ok (value k))))
  keeps_tries polled is same = tries (subst (λ p. OnPending p ((x : Result (Result P E) F) → IfOk x A → IfOk x B)) is same)

module _ {P E : Type 0} (A B : P → Type 0) where
  -- where outputs of the later state are outputs of the earlier one, so are answers that may be errors
  answers : ((x : P) → A x → B x) → (x : Result P E) → IfOk x A → IfOk x B
  answers same (Ok p) given = same p given
  answers same (Err e) given = tt

  pub keeps_answers : (polled : Poll (Result P E)) → OnPending polled ((x : P) → A x → B x) → OnPending polled ((x : Result P E) → IfOk x A → IfOk x B)
  keeps_answers (Ready r) same = tt
  keeps_answers Pending same = answers same
