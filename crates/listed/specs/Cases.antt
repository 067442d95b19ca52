-- Document 01's cases P1 to P8, as one table: the job texts as bytes, and for each what document 01 says of it.
use Rattle.std.specs.Prelude.{ℕ, List, [], ◌∷◌}
use Rattle.std.proofs.Math.Option.{Option, some, none}
use Rattle.theory.specs.Path.{Path}
use Rattle.theory.specs.Word.{Word}
use Rattle.theory.specs.Graph.{Table}
use Rattle.syntax.specs.Byte.{Bytes}

-- One sentence of a case. Verdicts have their allowance, answers from links the chosen expression.
pub data Claim : Type 0 where
  standings : ℕ → Claim
  -- document 01's states, before they are merged
  states : ℕ → Claim
  -- the same with a greater limit, which comes first, where 64 or 256 is exceeded
  standings-within : ℕ → ℕ → Claim
  states-within : ℕ → ℕ → Claim
  -- the next states of each state in list order, row after row, and the flags, before states are merged
  next-states : List ℕ → Claim
  flags : List ℕ → Claim
  -- the same of the states that Find gives, merged
  merged-states : ℕ → Claim
  merged-next-states : List ℕ → Claim
  merged-flags : List ℕ → Claim
  first : Option Word → Claim
  complete : ℕ → Claim
  missed : ℕ → Path → Claim
  pairs : ℕ → ℕ → Claim
  -- the number of the verdict's refusal
  refused : ℕ → ℕ → Claim
  -- the marks for N recordings, a table and a start
  links : ℕ → ℕ → Table → ℕ → List ℕ → Claim
  lists : ℕ → Table → ℕ → List ℕ → Claim

pub record Case : Type 0 where
  pub text : Bytes
  pub claims : List Claim

-- document 01's job, which is also that of P8
abbrev pub p1 : Bytes
p1 =
    108 ∷ (97 ∷ (98 ∷ (101 ∷ (108 ∷ (32 ∷ (101 ∷ (112 ∷ (105 ∷ (115 ∷ (111 ∷ (100 ∷ (101 ∷ (10 ∷ (108 ∷ (97 ∷ (98 ∷ (101 ∷ (108 ∷ (32 ∷ (109 ∷ (105 ∷ (120 ∷ (10 ∷ (108 ∷ (97 ∷ (98 ∷ (101 ∷ (108 ∷ (32 ∷ (109 ∷ (97 ∷ (115 ∷ (116 ∷ (101 ∷ (114 ∷ (10 ∷ (113 ∷ (117 ∷ (101 ∷ (114 ∷ (121 ∷ (32 ∷ (101 ∷ (112 ∷ (105 ∷ (115 ∷ (111 ∷ (100 ∷ (101 ∷ (46 ∷ (40 ∷ (109 ∷ (105 ∷ (120 ∷ (124 ∷ (109 ∷ (97 ∷ (115 ∷ (116 ∷ (101 ∷ (114 ∷ (41 ∷ (10 ∷ (108 ∷ (105 ∷ (115 ∷ (116 ∷ (32 ∷ (101 ∷ (112 ∷ (105 ∷ (115 ∷ (111 ∷ (100 ∷ (101 ∷ (115 ∷ (32 ∷ (101 ∷ (112 ∷ (105 ∷ (115 ∷ (111 ∷ (100 ∷ (101 ∷ (10 ∷ (108 ∷ (105 ∷ (115 ∷ (116 ∷ (32 ∷ (109 ∷ (105 ∷ (120 ∷ (101 ∷ (115 ∷ (32 ∷ (109 ∷ (105 ∷ (120 ∷ (10 ∷ []))))))))))))))))))))))))))))))))))))))))))))))))))))))))))))))))))))))))))))))))))))))))))))))))))))

-- document 001, Example 2: `a.(b.a|c)*`, lists `a`, `a.c*.b`, `c`
abbrev pub p2 : Bytes
p2 =
    108 ∷ (97 ∷ (98 ∷ (101 ∷ (108 ∷ (32 ∷ (97 ∷ (10 ∷ (108 ∷ (97 ∷ (98 ∷ (101 ∷ (108 ∷ (32 ∷ (98 ∷ (10 ∷ (108 ∷ (97 ∷ (98 ∷ (101 ∷ (108 ∷ (32 ∷ (99 ∷ (10 ∷ (113 ∷ (117 ∷ (101 ∷ (114 ∷ (121 ∷ (32 ∷ (97 ∷ (46 ∷ (40 ∷ (98 ∷ (46 ∷ (97 ∷ (124 ∷ (99 ∷ (41 ∷ (42 ∷ (10 ∷ (108 ∷ (105 ∷ (115 ∷ (116 ∷ (32 ∷ (101 ∷ (49 ∷ (32 ∷ (97 ∷ (10 ∷ (108 ∷ (105 ∷ (115 ∷ (116 ∷ (32 ∷ (101 ∷ (50 ∷ (32 ∷ (97 ∷ (46 ∷ (99 ∷ (42 ∷ (46 ∷ (98 ∷ (10 ∷ (108 ∷ (105 ∷ (115 ∷ (116 ∷ (32 ∷ (101 ∷ (51 ∷ (32 ∷ (99 ∷ (10 ∷ [])))))))))))))))))))))))))))))))))))))))))))))))))))))))))))))))))))))))))))

-- P2 without the list `c`
abbrev pub p3 : Bytes
p3 =
    108 ∷ (97 ∷ (98 ∷ (101 ∷ (108 ∷ (32 ∷ (97 ∷ (10 ∷ (108 ∷ (97 ∷ (98 ∷ (101 ∷ (108 ∷ (32 ∷ (98 ∷ (10 ∷ (108 ∷ (97 ∷ (98 ∷ (101 ∷ (108 ∷ (32 ∷ (99 ∷ (10 ∷ (113 ∷ (117 ∷ (101 ∷ (114 ∷ (121 ∷ (32 ∷ (97 ∷ (46 ∷ (40 ∷ (98 ∷ (46 ∷ (97 ∷ (124 ∷ (99 ∷ (41 ∷ (42 ∷ (10 ∷ (108 ∷ (105 ∷ (115 ∷ (116 ∷ (32 ∷ (101 ∷ (49 ∷ (32 ∷ (97 ∷ (10 ∷ (108 ∷ (105 ∷ (115 ∷ (116 ∷ (32 ∷ (101 ∷ (50 ∷ (32 ∷ (97 ∷ (46 ∷ (99 ∷ (42 ∷ (46 ∷ (98 ∷ (10 ∷ [])))))))))))))))))))))))))))))))))))))))))))))))))))))))))))))))))

-- `a*`, list `a*`
abbrev pub p4 : Bytes
p4 =
    108 ∷ (97 ∷ (98 ∷ (101 ∷ (108 ∷ (32 ∷ (97 ∷ (10 ∷ (113 ∷ (117 ∷ (101 ∷ (114 ∷ (121 ∷ (32 ∷ (97 ∷ (42 ∷ (10 ∷ (108 ∷ (105 ∷ (115 ∷ (116 ∷ (32 ∷ (108 ∷ (32 ∷ (97 ∷ (42 ∷ (10 ∷ []))))))))))))))))))))))))))

-- `a`, list `a*`
abbrev pub p5 : Bytes
p5 =
    108 ∷ (97 ∷ (98 ∷ (101 ∷ (108 ∷ (32 ∷ (97 ∷ (10 ∷ (113 ∷ (117 ∷ (101 ∷ (114 ∷ (121 ∷ (32 ∷ (97 ∷ (10 ∷ (108 ∷ (105 ∷ (115 ∷ (116 ∷ (32 ∷ (108 ∷ (32 ∷ (97 ∷ (42 ∷ (10 ∷ [])))))))))))))))))))))))))

-- `a*`, no list
abbrev pub p6 : Bytes
p6 =
    108 ∷ (97 ∷ (98 ∷ (101 ∷ (108 ∷ (32 ∷ (97 ∷ (10 ∷ (113 ∷ (117 ∷ (101 ∷ (114 ∷ (121 ∷ (32 ∷ (97 ∷ (42 ∷ (10 ∷ []))))))))))))))))

-- 3 a's, lists `a` and `a?`
abbrev pub p7 : Bytes
p7 =
    108 ∷ (97 ∷ (98 ∷ (101 ∷ (108 ∷ (32 ∷ (97 ∷ (10 ∷ (113 ∷ (117 ∷ (101 ∷ (114 ∷ (121 ∷ (32 ∷ (97 ∷ (46 ∷ (97 ∷ (46 ∷ (97 ∷ (10 ∷ (108 ∷ (105 ∷ (115 ∷ (116 ∷ (32 ∷ (108 ∷ (32 ∷ (97 ∷ (10 ∷ (108 ∷ (105 ∷ (115 ∷ (116 ∷ (32 ∷ (109 ∷ (32 ∷ (97 ∷ (63 ∷ (10 ∷ []))))))))))))))))))))))))))))))))))))))

-- P1 to P8, in order: what document 01 says, and what Find gives with its states merged.
abbrev pub cases : List Case
cases =
    (record { text = p1; claims = standings 5 ∷ (states 4 ∷ (next-states (1 ∷ (2 ∷ (2 ∷ (3 ∷ (2 ∷ (2 ∷ (2 ∷ (2 ∷ [])))))))) ∷ (flags (0 ∷ (0 ∷ (0 ∷ (1 ∷ [])))) ∷ (first (some (0 ∷ (1 ∷ []))) ∷ (missed 11 (0 ∷ (2 ∷ [])) ∷ (pairs 11 11 ∷ (refused 10 13 ∷ (merged-states 4 ∷ (merged-next-states (1 ∷ (2 ∷ (2 ∷ (3 ∷ (2 ∷ (2 ∷ (2 ∷ (2 ∷ [])))))))) ∷ (merged-flags (0 ∷ (0 ∷ (0 ∷ (1 ∷ [])))) ∷ [])))))))))) })
    ∷ ((record { text = p2; claims = standings 6 ∷ (states 6 ∷ (complete 4096 ∷ (merged-states 3 ∷ (merged-next-states (1 ∷ (0 ∷ (2 ∷ (2 ∷ (2 ∷ (1 ∷ (2 ∷ (2 ∷ (2 ∷ []))))))))) ∷ (merged-flags (0 ∷ (1 ∷ (0 ∷ []))) ∷ (pairs 4096 14 ∷ [])))))) })
    ∷ ((record { text = p3; claims = states 5 ∷ (missed 4096 (0 ∷ (2 ∷ [])) ∷ (merged-states 3 ∷ (pairs 4096 12 ∷ []))) })
    ∷ ((record { text = p4; claims = states 2 ∷ (flags (1 ∷ (1 ∷ [])) ∷ (first (some []) ∷ (complete 4096 ∷ (merged-states 1 ∷ (merged-flags (1 ∷ []) ∷ []))))) })
    ∷ ((record { text = p5; claims = first none ∷ (missed 4096 (0 ∷ []) ∷ (merged-states 1 ∷ (merged-flags (0 ∷ []) ∷ []))) })
    ∷ ((record { text = p6; claims = states 1 ∷ (first (some []) ∷ (missed 4096 (0 ∷ []) ∷ (merged-states 1 ∷ []))) })
    ∷ ((record { text = p7; claims = standings 5 ∷ (states 15 ∷ (merged-states 5 ∷ [])) })
    ∷ ((record { text = p1; claims = links 3 0 (0 ∷ (0 ∷ (1 ∷ (1 ∷ (1 ∷ (0 ∷ (1 ∷ (2 ∷ (2 ∷ []))))))))) 0 (1 ∷ (0 ∷ (1 ∷ []))) ∷ (lists 3 (0 ∷ (0 ∷ (1 ∷ (1 ∷ (1 ∷ (0 ∷ [])))))) 0 (1 ∷ (0 ∷ (0 ∷ []))) ∷ []) })
    ∷ [])))))))
