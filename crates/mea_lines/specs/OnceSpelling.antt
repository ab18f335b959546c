-- how an event of once types is spelled
use Rattle.std.specs.Prelude.{ℕ, List, codes}
use Rattle.mea_events.specs.declared.once_event.OnceEvent.{OnceEvent}
use Rattle.mea_events.specs.declared.once_event.OnceEvent.TheVariants as Once
use Rattle.mea_text.specs.declared.numbers.Numbers.{Numbers}
use Rattle.mea_text.specs.declared.numbers.Numbers.TheVariants.{Bare, One, Two}
use Rattle.mea_text.specs.Number.{AreFit}
use Rattle.mea_text.specs.Words.{listed}

-- its word, and the numbers after it in their order
abbrev pub once_said : OnceEvent → List ℕ × Numbers
once_said Once.OnNew = (codes "on.new", Bare)
once_said (Once.OnDone o) = (codes "on.done", One o)
once_said (Once.OnCall o) = (codes "on.call", One o)
once_said (Once.OnWait o) = (codes "on.wait", One o)
once_said (Once.OnPoll f w) = (codes "on.poll", Two f w)
once_said (Once.OnSettle f) = (codes "on.settle", One f)
once_said (Once.OnEnd f) = (codes "on.end", One f)
once_said (Once.OnDrop o) = (codes "on.drop", One o)
once_said Once.OcNew = (codes "oc.new", Bare)
once_said (Once.OcFrom v) = (codes "oc.from", One v)
once_said (Once.OcGet c) = (codes "oc.get", One c)
once_said (Once.OcInit c) = (codes "oc.init", One c)
once_said (Once.OcSet c v) = (codes "oc.set", Two c v)
once_said (Once.OcIns c v) = (codes "oc.ins", Two c v)
once_said (Once.OcMinit c) = (codes "oc.minit", One c)
once_said (Once.OcPoll f w) = (codes "oc.poll", Two f w)
once_said (Once.OcSettle f v) = (codes "oc.settle", Two f v)
once_said (Once.OcFail f e) = (codes "oc.fail", Two f e)
once_said (Once.OcEnd f) = (codes "oc.end", One f)
once_said (Once.OcPeek c) = (codes "oc.peek", One c)
once_said (Once.OcPut c v) = (codes "oc.put", Two c v)
once_said (Once.OcTake c) = (codes "oc.take", One c)
once_said (Once.OcInto c) = (codes "oc.into", One c)
once_said (Once.OcDrop c) = (codes "oc.drop", One c)
once_said Once.OmNew = (codes "om.new", Bare)
once_said (Once.OmGet m k) = (codes "om.get", Two m k)
once_said (Once.OmCompute m k) = (codes "om.compute", Two m k)
once_said (Once.OmPoll f w) = (codes "om.poll", Two f w)
once_said (Once.OmSettle f v) = (codes "om.settle", Two f v)
once_said (Once.OmFail f e) = (codes "om.fail", Two f e)
once_said (Once.OmDiscard m k) = (codes "om.discard", Two m k)
once_said (Once.OmRemove m k) = (codes "om.remove", Two m k)
once_said (Once.OmEnd f) = (codes "om.end", One f)
once_said (Once.OmDrop m) = (codes "om.drop", One m)
once_said Once.SfNew = (codes "sf.new", Bare)
once_said (Once.SfWork g k) = (codes "sf.work", Two g k)
once_said (Once.SfPoll f w) = (codes "sf.poll", Two f w)
once_said (Once.SfSettle f v) = (codes "sf.settle", Two f v)
once_said (Once.SfFail f e) = (codes "sf.fail", Two f e)
once_said (Once.SfForget g k) = (codes "sf.forget", Two g k)
once_said (Once.SfEnd f) = (codes "sf.end", One f)
once_said (Once.SfDrop g) = (codes "sf.drop", One g)

-- each number fits its type
abbrev pub OnceFits : OnceEvent → Type 0
OnceFits e = AreFit (listed (once_said e).1)
