-- what a reply in few words stands for
use Rattle.mea_family.specs.declared.answer.Answer.{Answer}
use Rattle.mea_family.specs.declared.answer.Answer.TheVariants as answers
use Rattle.mea_family.specs.declared.reply.Word.{Word}
use Rattle.mea_family.specs.declared.reply.Word.TheVariants as words

-- the answer of the same name
abbrev pub answer_of : Word → Answer
answer_of words.Made = answers.Made
answer_of words.Held = answers.Held
answer_of words.Lacking = answers.Lacking
answer_of words.Yes = answers.Yes
answer_of words.No = answers.No
answer_of words.Ready = answers.Ready
answer_of words.Pending = answers.Pending
answer_of words.Leader = answers.Leader
answer_of words.Done = answers.Done
answer_of words.Accepted = answers.Accepted
answer_of (words.Full v) = answers.Full v
answer_of (words.Closed v) = answers.Closed v
answer_of (words.Got v) = answers.Got v
answer_of words.Empty = answers.Empty
answer_of words.Gone = answers.Gone
answer_of (words.Free k) = answers.Free k
answer_of (words.Count k) = answers.Count k
answer_of (words.Left k) = answers.Left k
answer_of (words.Value v) = answers.Value v
answer_of (words.Failure e) = answers.Failure e
answer_of (words.Back v) = answers.Back v
answer_of (words.Kept kept back) = answers.Kept kept back
answer_of (words.Key k) = answers.Key k
answer_of (words.Lagged missed) = answers.Lagged missed
