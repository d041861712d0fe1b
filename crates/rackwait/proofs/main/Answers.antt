-- Every turn leaves the buffer for the lines as long as it was.
use denote.Param.Always.{mut_by}
use Rattle.std.proofs.Common.{rules, ◌≤◌, length}
use Rattle.lines.specs.Lines.{longest_line}
use Rattle.rackwait.proofs.main.Goals as goal

pub fold-done-requires : goal.fold-done-requires
fold-done-requires c = mut_by _ (λ f. longest_line ≤ length f.1.now) (λ s a i. search (rules, i)) (λ s a r t i e. search (rules, i)) _ (search rules)
