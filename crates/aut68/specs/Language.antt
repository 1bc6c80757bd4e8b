-- The languages of the books: AUT-68 (document 01), and AUT-QE (paper 13), which has document 01's rules with its own put in.
pub data Language : Type 0 where
  aut68 aut_qe : Language

-- The language has paper 13's rules. A premise `Extended language` marks what only AUT-QE has.
pub data Extended : Language → Type 0 where
  extended : Extended aut_qe
