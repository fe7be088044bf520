-- `verify_text` meets its contract: what the check finds is printed.
use Rattle.text_verify.specs.Output.{verify_output}
use Rattle.text_verify.proofs.verify_text.Goals as goal

pub returns : goal.returns
unfolding verify_output
returns c = rw c.verify-found.ensures at c.print_findings.ensures
