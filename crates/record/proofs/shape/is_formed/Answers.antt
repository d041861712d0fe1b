-- Form by form.
use borrow.Author.Rules.{rules}
use mathlib.Core.Path.{sym, ◌∙◌}
use Rattle.record.specs.Refusals.{uses, ranged}
use Rattle.record.specs.Stretches.{used_bytes}
use Rattle.record.proofs.ShapeLaws.{formed_by, bare, number, declared_priority, preset, time_of_day_law}
use Rattle.record.proofs.shape.is_formed.Goals as goal

pub returns-in-Bare : goal.returns-in-Bare
returns-in-Bare c = formed_by _ _ _ _ (c.requires.h_value, c.requires.list_value) _ (sym c.form_of.ensures ∙ c.in-Bare.is) (bare _ _ _ _ (c.requires.h_value, c.requires.list_value) c.zero_from.ensures)

pub returns-in-Number : goal.returns-in-Number
returns-in-Number c = formed_by _ _ _ _ (c.requires.h_value, c.requires.list_value) _ (sym c.form_of.ensures ∙ c.in-Number.is) (number _ _ _ _ (c.requires.h_value, c.requires.list_value) c.zero_from-in-Number.ensures)

pub returns-in-Continuation : goal.returns-in-Continuation
unfolding uses ranged used_bytes
returns-in-Continuation c = formed_by _ _ _ _ (c.requires.h_value, c.requires.list_value) _ (sym c.form_of.ensures ∙ c.in-Continuation.is) c.is_continuation_formed.ensures

pub returns-in-DeclaredPriority : goal.returns-in-DeclaredPriority
returns-in-DeclaredPriority c = formed_by _ _ _ _ (c.requires.h_value, c.requires.list_value) _ (sym c.form_of.ensures ∙ c.in-DeclaredPriority.is) (declared_priority _ _ _ _ (c.requires.h_value, c.requires.list_value) c.zero_around.ensures)

pub returns-in-Preset : goal.returns-in-Preset
returns-in-Preset c = formed_by _ _ _ _ (c.requires.h_value, c.requires.list_value) _ (sym c.form_of.ensures ∙ c.in-Preset.is) (preset _ _ _ _ (c.requires.h_value, c.requires.list_value) c.zero_around-in-Preset.ensures)

pub returns-in-TimeOfDay : goal.returns-in-TimeOfDay
returns-in-TimeOfDay c = formed_by _ _ _ _ (c.requires.h_value, c.requires.list_value) _ (sym c.form_of.ensures ∙ c.in-TimeOfDay.is) (time_of_day_law _ _ _ _ (c.requires.h_value, c.requires.list_value) c.zero_around-in-TimeOfDay.ensures)

pub returns-in-Resumption : goal.returns-in-Resumption
unfolding uses ranged used_bytes
returns-in-Resumption c = formed_by _ _ _ _ (c.requires.h_value, c.requires.list_value) _ (sym c.form_of.ensures ∙ c.in-Resumption.is) c.is_resumption_formed.ensures

pub returns-in-Activation : goal.returns-in-Activation
unfolding uses ranged used_bytes
returns-in-Activation c = formed_by _ _ _ _ (c.requires.h_value, c.requires.list_value) _ (sym c.form_of.ensures ∙ c.in-Activation.is) c.is_activation_formed.ensures

pub returns-in-Numbers : goal.returns-in-Numbers
unfolding uses ranged used_bytes
returns-in-Numbers c = formed_by _ _ _ _ (c.requires.h_value, c.requires.list_value) _ (sym c.form_of.ensures ∙ c.in-Numbers.is) c.is_list_formed.ensures

pub returns-in-OneNumber : goal.returns-in-OneNumber
unfolding uses ranged used_bytes
returns-in-OneNumber c = formed_by _ _ _ _ (c.requires.h_value, c.requires.list_value) _ (sym c.form_of.ensures ∙ c.in-OneNumber.is) c.is_list_formed-in-OneNumber.ensures
