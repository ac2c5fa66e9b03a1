use Rattle.token_scan.proofs.LayoutLemmas.{layout-longest}
use Rattle.token_scan.proofs.laws.layout_is_longest.Goals as goal

pub returns : goal.returns
returns c = layout-longest
