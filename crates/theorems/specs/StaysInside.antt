-- Reduction stays inside AUT-68 (paper 11), as closed theorems over the lines of a correct book.
use Rattle.aut68.specs.Demands.{StepsStayInside, CategoriesStayInside, QuotedMiddles, QuotedCategories}
use Rattle.inclusion.proofs.Derivations.{derived_built, derived_plain}
use Rattle.inclusion.proofs.StaysInside.{steps_stay, categories_stay}
use Rattle.inclusion.proofs.QuotedLines.{quoted_middle, quoted_category}

-- What is reached by steps from a correct expression is correct, and its category equals the earlier one.
pub steps_stay_inside : StepsStayInside
unfolding StepsStayInside
steps_stay_inside pieces st i vs sc e e' c D C S h r = steps_stay (derived_built D) S h r

-- The category of a correct expression is `type` or itself correct.
pub categories_stay_inside : CategoriesStayInside
unfolding CategoriesStayInside
categories_stay_inside pieces st i vs sc e c D C S h = categories_stay (derived_built D) S (derived_plain D) C h

-- What is reached from a recorded middle has a category equal to the written one.
pub quoted_middles : QuotedMiddles
unfolding QuotedMiddles
quoted_middles pieces st v l m e D i q r = quoted_middle (derived_built D) i q r

-- A recorded category is `type`, or what is reached from it has category `type`.
pub quoted_categories : QuotedCategories
unfolding QuotedCategories
quoted_categories pieces st v l e D i r = quoted_category (derived_built D) i (derived_plain D) r
