use Rattle.mea_meet_model.specs.Counts.{OfSignal, OfMembers}
use Rattle.mea_meet_model.specs.Meaning.{meaning_of}
use Rattle.mea_meet_model.proofs.EndedCounts.{latches_last, groups_last, shutdowns_last}
use Rattle.mea_meet_model.proofs.counts.an_ended_count_stays_ended.Goals as goal

pub returns-clause-latches : goal.returns-clause-latches
returns-clause-latches c = λ h n i e v later l. latches_last h n i later l OfSignal v.latches (meaning_of e)

pub returns-clause-groups : goal.returns-clause-groups
returns-clause-groups c = λ h n i e v later g. groups_last h n i later g OfMembers v.groups (meaning_of e)

pub returns-clause-shutdowns : goal.returns-clause-shutdowns
returns-clause-shutdowns c = λ h n i e v later s a some still. shutdowns_last h n i later s a v.shutdowns (meaning_of e) some
