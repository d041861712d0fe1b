-- The marks, and what follows each of them (document 01, "Records").
use Rattle.std.specs.Prelude.{Option, None, Some, Bool, cond, List, [], ◌∷◌, ℕ, eqb}
use Rattle.layout.specs.declared.Mark.{Mark}
use Rattle.layout.specs.declared.Mark.TheVariants.{DT, DS, DB, IT, DC, AC, TE, SU, PR, CO, EN, RE, RQ, RL, TR, RS, FR, ET, LV, TG, EI, XI, TI, SL}
use Rattle.layout.specs.declared.Form.{Form}
use Rattle.layout.specs.declared.Form.TheVariants.{Bare, Number, Continuation, DeclaredPriority, Preset, TimeOfDay, Resumption, Activation, Numbers, OneNumber}

-- A mark's two ASCII letters as one number, the first in the high byte.
abbrev pub code : Mark → ℕ
code DT = 0x4454
code DS = 0x4453
code DB = 0x4442
code IT = 0x4954
code DC = 0x4443
code AC = 0x4143
code TE = 0x5445
code SU = 0x5355
code PR = 0x5052
code CO = 0x434f
code EN = 0x454e
code RE = 0x5245
code RQ = 0x5251
code RL = 0x524c
code TR = 0x5452
code RS = 0x5253
code FR = 0x4652
code ET = 0x4554
code LV = 0x4c56
code TG = 0x5447
code EI = 0x4549
code XI = 0x5849
code TI = 0x5449
code SL = 0x534c

abbrev pub is : Mark → Mark → Bool
is m n = eqb (code m) (code n)

-- Declarations first, then calls.
abbrev pub marks : List Mark
marks =
    DT ∷ DS ∷ DB ∷ IT ∷ DC ∷ AC ∷ TE ∷ SU ∷ PR ∷ CO ∷ EN ∷ RE ∷ RQ ∷ RL ∷ TR ∷ RS ∷ FR ∷ ET ∷ LV ∷ TG ∷ EI ∷ XI ∷ TI ∷ SL ∷ []

unfoldable pub among : List Mark → ℕ → Option Mark
among [] n = None
among (m ∷ ms) n = cond (eqb n (code m)) (Some m) (among ms n)

-- The mark whose letters are n, if there is one.
abbrev pub mark_of : ℕ → Option Mark
mark_of n = among marks n

-- What follows a mark: which fields it uses.
abbrev pub form : Mark → Form
form DT = DeclaredPriority
form DS = Preset
form DB = Bare
form IT = Bare
form DC = TimeOfDay
form AC = Activation
form TE = Number
form SU = Number
form PR = Number
form CO = Continuation
form EN = Bare
form RE = Resumption
form RQ = Numbers
form RL = Numbers
form TR = OneNumber
form RS = Numbers
form FR = Numbers
form ET = Numbers
form LV = Numbers
form TG = Number
form EI = Number
form XI = Number
form TI = Bare
form SL = Bare
