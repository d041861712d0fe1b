-- What a method hands back: the next kernel and the answer.
use Rattle.machine.specs.declared.Stepped.{Stepped}
use Rattle.kernel.specs.declared.Reply.{Reply}

-- A step's next kernel and answer, as they are.
unfoldable pub reply : Stepped → Reply
reply s = record { kernel = record { state = s.state }; answer = s.answer }
