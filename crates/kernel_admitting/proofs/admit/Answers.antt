-- By what opens, and by the first refusal.
use borrow.Author.Rules.{rules}
use mathlib.Core.Path.{◌≡◌, refl, sym, ap, ◌∙◌}
use Rattle.calendar.specs.Limits.{day_length}
use Rattle.layout.specs.declared.Head.{Head}
use Rattle.record.specs.Reading.{Read, refused, opened}
use Rattle.record.specs.declared.Reading.{Reading}
use Rattle.record.proofs.OpenedLaws.{opened_length}
use Rattle.record.proofs.NumberLaws.{number_some}
use Rattle.record.proofs.ReaderLaws.{read_fields}
use Rattle.machine.specs.Sorts.{sort_of}
use Rattle.kernel_admitting.proofs.Admitting.{not_accepted, same_head, admit_unread, admit_refused, admit_passed}
use Rattle.kernel_admitting.proofs.admit.Goals as goal
use Rattle.kernel_admitting.proofs.admit.Goals.{After-open_record-answer}

-- What is opened of the 24 bytes is what is opened of the bytes handed in.
same : (c : After-open_record-answer) → c.open_record-answer.result ≡ opened c.args.s.now
same c = c.open_record-answer.ensures ∙ ap opened (c.in-Ok.ensures).1.same

pub returns-in_default : goal.returns-in_default
returns-in_default c =
    let o = sym (opened_length c.args.s.now (c.in_default.ensures).1) in
    record { reading = ap refused c.number.ensures ∙ o ∙ admit_unread day_length _ _ _ o refl; sort = λ h q. not_accepted q }

pub returns-in_default-answer : goal.returns-in_default-answer
returns-in_default-answer c =
    let e = c.in_default-answer.is in
    let o = same (goal.at.returns-in_default-answer c).After-open_record-answer in
    record { reading = o ∙ admit_unread day_length _ _ _ o e; sort = λ h q. not_accepted (sym e ∙ q) }

pub shape_at-shaped-requires : goal.shape_at-shaped-requires
shape_at-shaped-requires c =
    let f = read_fields day_length _ c.open_record-answer.ensures c.in-Ok-answer.is in
    record { h_value = f.0; list_value = f.1 }

pub returns-in-Err : goal.returns-in-Err
returns-in-Err c =
    let o = same (goal.at.returns-in-Err c).After-open_record-answer in
    record {
      reading = ap refused c.number-in-Err.ensures ∙ admit_refused day_length _ _ _ o c.in-Ok-answer.is c.in-Err.ensures (number_some c.in-Err.refusal);
      sort = λ h q. not_accepted q;
    }

pub returns-in-Ok-formal_refusal : goal.returns-in-Ok-formal_refusal
returns-in-Ok-formal_refusal c =
    record {
      reading = ap (λ (a : Read). record { answer = a; list = c.open_record-answer.result.list }) (sym c.in-Ok-answer.is)
          ∙ admit_passed day_length _ _ _ (same (goal.at.returns-in-Ok-formal_refusal c).After-open_record-answer) c.in-Ok-answer.is (sym c.in-Ok-formal_refusal.ensures);
      sort = λ h q. c.sort_of-sort.ensures ∙ ap (λ (x : Head). sort_of x.mark) (same_head q);
    }
