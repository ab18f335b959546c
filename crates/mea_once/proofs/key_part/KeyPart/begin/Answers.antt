use Rattle.std.proofs.Common.{ℕ, Some, None, refl, sym, ap, ◌∙◌}
use Rattle.std.specs.Option.{option_copied_mut}
use Rattle.mea_once_core.specs.declared.key_call.KeyCall.{KeyCall}
use Rattle.mea_once.specs.declared.scripted.Scripted.{Scripted}
use Rattle.mea_family.proofs.Refusals.{unknown, lacking}
use Rattle.mea_once.proofs.TableEvents.{table_form, object_cause, few_futures, unchanged, site, begins_future}
use Rattle.mea_once.proofs.key_part.KeyPart.begin.Goals as goal

pub returns-in_default : goal.returns-in_default
returns-in_default g c = (unknown _ _ (object_cause (table_form g.C.TableCore.is_once) c.self.inside.tables c.self.inside.futures c.self.inside.next c.self.view_is c.args.o None (sym c.get_mut.ensures.value ∙ ap option_copied_mut c.in_default.is)), c.self.view_is)

pub invariant_of-self-in_default-insert : goal.invariant_of-self-in_default-insert
invariant_of-self-in_default-insert g c = rw c.in_default-insert.ensures.err (unchanged (site g.C.TableCore.is_once c.self.inside.tables c.self.inside.futures c.self.inside.next c.self.view_is c.self.invariant c.requires c.ranges.number.fits) c.args.o c.in-Some.entry.now (sym c.get_mut.ensures.value ∙ ap option_copied_mut c.in-Some.is)).0

pub returns-in_default-insert : goal.returns-in_default-insert
returns-in_default-insert g c = (lacking _ _ (object_cause (table_form g.C.TableCore.is_once) c.self.inside.tables c.self.inside.futures c.self.inside.next c.self.view_is c.args.o (Some c.in-Some.entry.now) (sym c.get_mut.ensures.value ∙ ap option_copied_mut c.in-Some.is)) (λ no. no), rw c.in_default-insert.ensures.err (unchanged (site g.C.TableCore.is_once c.self.inside.tables c.self.inside.futures c.self.inside.next c.self.view_is c.self.invariant c.requires c.ranges.number.fits) c.args.o c.in-Some.entry.now (sym c.get_mut.ensures.value ∙ ap option_copied_mut c.in-Some.is)).1)

pub begin-requires : goal.begin-requires
begin-requires g c = few_futures (site g.C.TableCore.is_once c.self.inside.tables c.self.inside.futures c.self.inside.next c.self.view_is c.self.invariant c.requires c.ranges.number.fits) c.args.o c.in-Some.entry.now (sym c.get_mut.ensures.value ∙ ap option_copied_mut c.in-Some.is)

pub invariant_of-self-2 : goal.invariant_of-self-2
invariant_of-self-2 g c = rw c.in-Ok.ensures.ok (begins_future g.C.TableCore.is_once (site g.C.TableCore.is_once c.self.inside.tables c.self.inside.futures c.self.inside.next c.self.view_is c.self.invariant c.requires c.ranges.number.fits) c.args.o c.in-Some.entry.now (sym c.get_mut.ensures.value ∙ ap option_copied_mut c.in-Some.is) (record { table = c.args.o; key = c.args.key; round = None; call = c.new.result }) c.begin.new.self c.begin.ensures refl refl (ap (λ (k : KeyCall ℕ Scripted). k.stage) c.new.ensures) (ap (λ (k : KeyCall ℕ Scripted). k.call.stage) c.new.ensures) (ap (λ (k : KeyCall ℕ Scripted). k.call.init.outcome) c.new.ensures ∙ c.unsettled.ensures)).0

pub returns : goal.returns
returns g c = ((object_cause (table_form g.C.TableCore.is_once) c.self.inside.tables c.self.inside.futures c.self.inside.next c.self.view_is c.args.o (Some c.in-Some.entry.now) (sym c.get_mut.ensures.value ∙ ap option_copied_mut c.in-Some.is)), rw c.in-Ok.ensures.ok (begins_future g.C.TableCore.is_once (site g.C.TableCore.is_once c.self.inside.tables c.self.inside.futures c.self.inside.next c.self.view_is c.self.invariant c.requires c.ranges.number.fits) c.args.o c.in-Some.entry.now (sym c.get_mut.ensures.value ∙ ap option_copied_mut c.in-Some.is) (record { table = c.args.o; key = c.args.key; round = None; call = c.new.result }) c.begin.new.self c.begin.ensures refl refl (ap (λ (k : KeyCall ℕ Scripted). k.stage) c.new.ensures) (ap (λ (k : KeyCall ℕ Scripted). k.call.stage) c.new.ensures) (ap (λ (k : KeyCall ℕ Scripted). k.call.init.outcome) c.new.ensures ∙ c.unsettled.ensures)).1)
