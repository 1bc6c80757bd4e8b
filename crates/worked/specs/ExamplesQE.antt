-- Books in AUT-QE, with their outcomes: examples of paper 13's rules and readings. Worked has them computed.
use Rattle.std.specs.Prelude.{List, [], ◌∷◌, ◌++◌}
use Rattle.aut68.specs.Language.{aut68, aut_qe}
use Rattle.aut68.specs.Cases.{Case, bytes_of, within, usual}
use Rattle.aut68.specs.Telling.{naturals, families, telling_qe}

unfoldable pub examples_qe : List Case
examples_qe =
    telling_qe
    ++
    ( -- 001, 4.2: a sequence of types
    usual aut_qe (naturals ++ bytes_of "*f:=EB:[x,nat]type\nf*t:=<one>f:type\n") 0 7 0
    ∷  -- 001, 4.3: a relation, applied twice (the last argument outermost)
    usual aut_qe (naturals ++ bytes_of "*R:=EB:[x,nat][y,nat]prop\nR*r:=<two><one>R:prop\n") 0 7 0
    ∷  -- 001, 3.6: IS, REFL, SYM (arguments in full)
    usual aut_qe (bytes_of "*a:=EB:type\na*x:=EB:a\nx*y:=EB:a\ny*IS:=PN:prop\nx*REFL:=PN:IS(a,x,x)\ny*i:=EB:IS(a,x,y)\ni*SYM:=PN:IS(a,y,x)\n") 0 7 0
    ∷  -- 001, 3.6: ISAX1
    usual aut_qe (bytes_of "*a:=EB:type\na*x:=EB:a\nx*y:=EB:a\ny*IS:=PN:prop\nx*REFL:=PN:IS(a,x,x)\ny*i:=EB:IS(a,x,y)\ni*SYM:=PN:IS(a,y,x)\na*b:=EB:type\nb*F:=EB:[x,a]b\nF*x1:=EB:a\nx1*y1:=EB:a\ny1*i1:=EB:IS(a,x1,y1)\ni1*ISAX1:=PN:IS(b,<x1>F,<y1>F)\n") 0 13 0
    ∷  -- 001, 4.3: ISAX2, a scheme with a predicate variable
    usual aut_qe (bytes_of "*a:=EB:type\na*x:=EB:a\nx*y:=EB:a\ny*IS:=PN:prop\nx*REFL:=PN:IS(a,x,x)\ny*i:=EB:IS(a,x,y)\ni*SYM:=PN:IS(a,y,x)\na*P:=EB:[x,a]prop\nP*x2:=EB:a\nx2*y2:=EB:a\ny2*i2:=EB:IS(a,x2,y2)\ni2*j2:=EB:<x2>P\nj2*ISAX2:=PN:<y2>P\n") 0 13 0
    ∷  -- ISAX2 used: from IS(nat,one,two) and a proof of Q(one), one of Q(two)
    usual aut_qe (bytes_of "*a:=EB:type\na*x:=EB:a\nx*y:=EB:a\ny*IS:=PN:prop\nx*REFL:=PN:IS(a,x,x)\ny*i:=EB:IS(a,x,y)\ni*SYM:=PN:IS(a,y,x)\na*P:=EB:[x,a]prop\nP*x2:=EB:a\nx2*y2:=EB:a\ny2*i2:=EB:IS(a,x2,y2)\ni2*j2:=EB:<x2>P\nj2*ISAX2:=PN:<y2>P\n*nat:=PN:type\n*one:=PN:nat\n*n0:=EB:nat\nn0*suc:=PN:nat\n*two:=suc(one):nat\n*Q:=PN:[z,nat]prop\n*e:=PN:IS(nat,one,two)\n*q1:=PN:<one>Q\n*q2:=ISAX2(nat,Q,one,two,e,q1):<two>Q\n") 0 22 0
    ∷  -- 001, 3.4: for all x, P(x): an abstraction; its category is [x,nat]prop
    usual aut_qe (naturals ++ bytes_of "*P:=EB:[x,nat]prop\nP*all:=[x,nat]<x>P:[x,nat]prop\nP*al2:=[x,nat]<x>P:prop\n") 0 8 0
    ∷  -- 001, 4.4: the predicate itself stands for the universal statement; instantiation is the second chance
    usual aut_qe (naturals ++ bytes_of "*P:=EB:[x,nat]prop\nP*c:=EB:P\nc*c1:=<one>c:<one>P\n") 0 8 0
    ∷  -- 001, 4.4: inclusion, one and two abstractions dropped
    usual aut_qe (naturals ++ bytes_of "*R:=PN:[x,nat][y,nat]prop\n*r1:=R:[x,nat]prop\n*r0:=R:prop\n") 0 8 0
    ∷  -- not the other way
    usual aut_qe (naturals ++ bytes_of "*u:=nat:[x,nat]type\n") 9 6 0
    ∷  -- the last ones are the surplus, not the first
    usual aut_qe (naturals ++ bytes_of "*nt2:=PN:type\n*R:=PN:[x,nt2][y,nat]type\n*r:=R:[y,nat]type\n") 9 8 0
    ∷  -- a proposition as a domain, in a supertype too
    usual aut_qe (naturals ++ bytes_of "*p:=PN:prop\n*u:=PN:[x,p]type\n*v:=[x,p]nat:[x,p]type\n*w:=[x,p]nat:type\n") 0 9 0
    ∷  -- second chance at a constant
    usual aut_qe (families ++ bytes_of "*u:=<one>g:<one>f\n") 0 10 0
    ∷  -- the applied thing itself is not unfolded: d is no function
    usual aut_qe (families ++ bytes_of "*u:=<one>d:type\n") 7 10 0
    ∷  -- a category <one>d is no right one, though <one>f is
    usual aut_qe (families ++ bytes_of "*u:=<one>h:<one>d\n") 7 10 0
    ∷  -- a bound variable in a family
    usual aut_qe (families ++ bytes_of "*u:=[z,f]<one>z:[z,f]<one>f\n") 0 10 0
    ∷  -- no eta: f and [x,nat]<x>f are different
    usual aut_qe (families ++ bytes_of "*v:=[x,nat]<x>g:[x,nat]<x>f\n*w:=g:[x,nat]<x>f\n") 9 11 0
    ∷  -- claim (b) needs "so reduced": with B's category unreduced this has one derivation that succeeds and one that fails
    usual aut_qe (naturals ++ bytes_of "*f:=PN:[x,nat]type\n*d:=f:type\n*k:=PN:[x,nat]d\n*u:=<two><one>k:<two>f\n") 0 9 1
    ∷  -- a type variable gets a family: the category of id(f) grows when it is unfolded
    usual aut_qe (families ++ bytes_of "*A:=EB:type\nA*id:=A:type\n*m:=PN:id(f)\n*u:=<one>m:<one>f\n") 0 13 1
    ∷  -- twice the second chance
    usual aut_qe (naturals ++ bytes_of "*f:=PN:[x,nat][y,nat]type\n*d:=f:type\n*k:=PN:d\n*u:=<two><one>k:<two><one>f\n") 0 9 1
    ∷  -- a supertype whose domain depends on the one before
    usual aut_qe (families ++ bytes_of "*G:=PN:[x,nat][y,<x>f]type\n*y:=PN:<one>f\n*t:=<y><one>G:type\n") 0 12 0
    ∷  -- first chance after a head step in B's category
    usual aut_qe (naturals ++ bytes_of "*T:=[x,nat]nat:type\n*k:=PN:T\n*u:=<one>k:nat\n") 0 8 1
    ∷  -- 7: the category of one is nat, that of nat is type
    usual aut_qe (naturals ++ bytes_of "*u:=<two>one:nat\n") 7 6 0
    ∷  -- the search for P comes before A, which alone would be 8
    usual aut_qe (naturals ++ bytes_of "*u:=<[x,one]one>nat:nat\n") 7 6 0
    ∷  -- 9: P and A's category
    usual aut_qe (families ++ bytes_of "*u:=<nat>g:<one>f\n") 9 10 0
    ∷  -- 8: domain of a supertype
    usual aut_qe (naturals ++ bytes_of "*u:=PN:[x,one]type\n") 8 6 0
    ∷  -- 8: category is an object
    usual aut_qe (naturals ++ bytes_of "*u:=PN:one\n") 8 6 0
    ∷  -- 9 without a step: [x,nat]T ends in no sort, so nothing is dropped and T is not unfolded
    usual aut_qe (naturals ++ bytes_of "*T:=nat:type\n*t:=PN:T\n*u:=[x,nat]t:type\n") 9 8 0
    ∷  -- sorts stand only at the end of categories
    usual aut_qe (naturals ++ bytes_of "*u:=[x,nat]type:type\n") 3 6 0
    ∷  -- prop is no name
    usual aut_qe (naturals ++ bytes_of "*u:=PN:[prop,nat]type\n") 3 6 0
    ∷  -- AUT-68 may have prop as a name
    usual aut68 (bytes_of "*prop:=PN:type\n") 0 1 0
    ∷  -- .. QE may not
    usual aut_qe (bytes_of "*prop:=PN:type\n") 3 1 0
    ∷  -- AUT-68 has no supertypes
    usual aut68 (naturals ++ bytes_of "*u:=PN:[x,nat]type\n") 3 6 0
    ∷  -- nesting: 31 abstractions before type
    usual aut_qe (naturals ++ bytes_of "*u:=PN:[x,nat][x,nat][x,nat][x,nat][x,nat][x,nat][x,nat][x,nat][x,nat][x,nat][x,nat][x,nat][x,nat][x,nat][x,nat][x,nat][x,nat][x,nat][x,nat][x,nat][x,nat][x,nat][x,nat][x,nat][x,nat][x,nat][x,nat][x,nat][x,nat][x,nat][x,nat]type\n") 0 6 0
    ∷  -- .. and 32
    usual aut_qe (naturals ++ bytes_of "*u:=PN:[x,nat][x,nat][x,nat][x,nat][x,nat][x,nat][x,nat][x,nat][x,nat][x,nat][x,nat][x,nat][x,nat][x,nat][x,nat][x,nat][x,nat][x,nat][x,nat][x,nat][x,nat][x,nat][x,nat][x,nat][x,nat][x,nat][x,nat][x,nat][x,nat][x,nat][x,nat][x,nat]type\n") 10 6 0
    ∷  -- depth of the search: f opens at 3, its innermost part at 32
    usual aut_qe (naturals ++ bytes_of "n*p:=PN:[x,nat]type\n*g:=PN:p(suc(suc(suc(suc(suc(suc(suc(suc(suc(suc(suc(suc(suc(suc(suc(suc(suc(suc(suc(suc(suc(suc(suc(suc(suc(suc(suc(suc(one)))))))))))))))))))))))))))))\n*u:=<one>g:<one>p(suc(suc(suc(suc(suc(suc(suc(suc(suc(suc(suc(suc(suc(suc(suc(suc(suc(suc(suc(suc(suc(suc(suc(suc(suc(suc(suc(suc(one)))))))))))))))))))))))))))))\n") 0 8 0
    ∷  -- .. and at 33
    usual aut_qe (naturals ++ bytes_of "n*p:=PN:[x,nat]type\n*g:=PN:p(suc(suc(suc(suc(suc(suc(suc(suc(suc(suc(suc(suc(suc(suc(suc(suc(suc(suc(suc(suc(suc(suc(suc(suc(suc(suc(suc(suc(suc(one))))))))))))))))))))))))))))))\n*u:=<one>g:<one>p(suc(suc(suc(suc(suc(suc(suc(suc(suc(suc(suc(suc(suc(suc(suc(suc(suc(suc(suc(suc(suc(suc(suc(suc(suc(suc(suc(suc(suc(one))))))))))))))))))))))))))))))\n") 10 8 0
    ∷  -- the found category is made and measured: 17 cells for a middle of 3
    within aut_qe 100000 17 (naturals ++ bytes_of "*R:=PN:[x,nat][x,nat][x,nat][x,nat][x,nat][x,nat][x,nat]type\n*u:=[y,nat]R:type\n") 0 7 0
    ∷  -- .. too large
    within aut_qe 100000 16 (naturals ++ bytes_of "*R:=PN:[x,nat][x,nat][x,nat][x,nat][x,nat][x,nat][x,nat]type\n*u:=[y,nat]R:type\n") 10 7 0
    ∷  -- 11: the head step before the search
    within aut_qe 0 128 (families ++ bytes_of "*u:=<one>h:<one>f\n") 11 10 0
    ∷  -- the sample of document 01
    usual aut_qe (naturals ++ bytes_of "*F:=[x,nat]nat:type\n*plus2:=[x,nat]suc(suc(x)):F\n*four:=<two>plus2:nat\n") 0 8 2
    ∷ [])
