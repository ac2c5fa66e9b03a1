use Rattle.std.proofs.Common.{option_map}
use Rattle.std.specs.Str.{chars}
use Rattle.run_model.specs.Goals.Arithmetic.{binary_function}
use Rattle.arith_eval.proofs.Names.{of_one_byte}
use Rattle.arith_eval.proofs.functions.binary_sign.Goals as goal

pub returns-in-43 : goal.returns-in-43
unfolding chars
returns-in-43 c = of_one_byte (λ name. option_map (λ f. f.value) (binary_function name)) c.args.name.now c.as_bytes.result.now 43 c.as_bytes.ensures.value c.in-len1.len_at_least c.in-len1.len_below c.in-43.is

pub returns-in-45 : goal.returns-in-45
unfolding chars
returns-in-45 c = of_one_byte (λ name. option_map (λ f. f.value) (binary_function name)) c.args.name.now c.as_bytes.result.now 45 c.as_bytes.ensures.value c.in-len1.len_at_least c.in-len1.len_below c.in-45.is

pub returns-in-42 : goal.returns-in-42
unfolding chars
returns-in-42 c = of_one_byte (λ name. option_map (λ f. f.value) (binary_function name)) c.args.name.now c.as_bytes.result.now 42 c.as_bytes.ensures.value c.in-len1.len_at_least c.in-len1.len_below c.in-42.is
