-- What the standard's table has.
use Rattle.std.specs.Prelude.{◌≡◌, length, Some, None, codes, refl}
use Rattle.au_model.specs.Syntax.Operators.{KindXfx, KindYfx, KindFy, prefix_of, infix_of, postfix_of, with_operator, without_operator, PrefixClass, initial_operators}

-- all 39 rows are in the table, each under its own name and class
all_placed : length initial_operators ≡ 39
all_placed = refl

minus_is_both : prefix_of initial_operators (codes "-") ≡ Some (record { priority = 200; kind = KindFy })
minus_is_both = refl

minus_infix : infix_of initial_operators (codes "-") ≡ Some (record { priority = 500; kind = KindYfx })
minus_infix = refl

no_postfix : postfix_of initial_operators (codes "-") ≡ None
no_postfix = refl

-- a new infix operator takes the place of the old one
replaced : infix_of (with_operator initial_operators (record { name = codes "-"; operator = record { priority = 700; kind = KindXfx } })) (codes "-") ≡ Some (record { priority = 700; kind = KindXfx })
replaced = refl

taken_away : prefix_of (without_operator PrefixClass (codes "-") initial_operators) (codes "-") ≡ None
taken_away = refl

infix_stays : infix_of (without_operator PrefixClass (codes "-") initial_operators) (codes "-") ≡ Some (record { priority = 500; kind = KindYfx })
infix_stays = refl
