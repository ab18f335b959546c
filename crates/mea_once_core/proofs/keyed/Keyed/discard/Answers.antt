use Rattle.std.proofs.Common.{◌≤◌, ◌∙◌, ℕ, Option, IfSome, refl, sym, subst, arith}
use Rattle.mea_once_core.specs.Keyed.{Keyed, Discards}
use Rattle.mea_once_core.specs.Table.{Unlists}
use Rattle.mea_once_core.proofs.Keyeds.{counted-unlisted, unlisted-within, match-some}
use Rattle.mea_once_core.proofs.keyed.Keyed.discard.Goals as goal

pub waiting_after-self-inside-requires : goal.waiting_after-self-inside-requires
waiting_after-self-inside-requires g c =
    let within = unlisted-within g.K.PartialEq.eq c.self.inside.table c.in-Some.number c.waiting-waiting.result c.cell.result.now c.in-Some.ensures.in_use c.cell.ensures c.waiting-waiting.ensures in
    let counted = c.self.invariant.counted in
    omega arith

pub invariant_of-self : goal.invariant_of-self
invariant_of-self g c =
    let removes : Unlists g.K.PartialEq.eq c.self.inside.table c.remove.new.self c.in-Some.number = (let P : Option ℕ → Type 0 = λ o. IfSome o (λ n. Unlists g.K.PartialEq.eq c.self.inside.table c.remove.new.self n) in subst P (c.remove.ensures.is ∙ sym c.in-Some.ensures.is) c.remove.ensures.some) in
    let k = counted-unlisted g.K.PartialEq.eq c.self.inside.table c.remove.new.self c.in-Some.number c.waiting-waiting.result c.self.inside.waiting c.self.inside.outbox.spare c.cell.result.now c.is_in_use.result
    c.in-Some.ensures.in_use removes c.self.invariant.quiet c.cell.ensures c.waiting-waiting.ensures c.is_in_use.ensures c.self.invariant.counted c.self.invariant.room in
    record { quiet = k.0; counted = c.waiting_after-self-inside.ensures ∙ k.1; room = subst (λ m. m ≤ c.self.inside.outbox.spare) (sym c.waiting_after-self-inside.ensures) k.2 }

pub returns : goal.returns
returns g c =
    let removes : Unlists g.K.PartialEq.eq c.self.inside.table c.remove.new.self c.in-Some.number = (let P : Option ℕ → Type 0 = λ o. IfSome o (λ n. Unlists g.K.PartialEq.eq c.self.inside.table c.remove.new.self n) in subst P (c.remove.ensures.is ∙ sym c.in-Some.ensures.is) c.remove.ensures.some) in
    let k' : Keyed g.row.K.Denot g.row.V.Denot g.row.W.Denot = record { table = c.remove.new.self; wakes = c.self.inside.outbox.wakers } in
    subst (λ (s : Keyed g.row.K.Denot g.row.V.Denot g.row.W.Denot). Discards g.K.PartialEq.eq s c.args.key.now k') c.self.view_is (match-some _ _ _ c.in-Some.number (sym c.in-Some.ensures.is) (removes, refl))
