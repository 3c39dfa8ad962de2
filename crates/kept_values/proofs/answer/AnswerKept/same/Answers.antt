use Rattle.std.proofs.Common.{ap}
use Rattle.kept_values.specs.Answers.{answer_tree}
use Rattle.kept_values.proofs.KeyLaws.{answer_tree-one}
use Rattle.kept_values.proofs.answer.AnswerKept.same.Goals as goal

pub returns : goal.returns
returns c = (λ is. ap answer_tree (c.same_answer.ensures.0 is), λ is. c.same_answer.ensures.1 (answer_tree-one _ _ is))
