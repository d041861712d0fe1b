-- The bytes from their parts.
use Rattle.layout.proofs.FieldsLaws.{laid}
use Rattle.layout.proofs.fields.bytes_of.Goals as goal

pub returns : goal.returns
returns c = laid c.args.c c.code_of-letters.ensures c.bytes_of_word-f.ensures c.bytes_of_word-p.ensures c.bytes_of_word-e.ensures
