-- The two comparisons (paper 8), as a closed theorem over the lines of every book, as far as its pieces have derivations.
use Rattle.aut68.specs.Comparing.{ComparisonsAgree}
use Rattle.agreement.specs.Claims.{both_comparisons}
use Rattle.inclusion.specs.Books.{built_right}
use Rattle.inclusion.proofs.Derivations.{derived_built}

-- What either calls equal has a common expression, what it calls different has none, so they agree where both end; a larger budget or
-- limit keeps the answer and the steps.
pub comparisons_agree : ComparisonsAgree
unfolding ComparisonsAgree
comparisons_agree pieces st D = both_comparisons st.earlier (built_right (derived_built D)).resolved_lines
