-- What the contracts of `put` and `compare` say of bytes, cells, words and coefficients, as the impls of `Element` have them.
--   put_gives_bytes, put_gives_cells, put_gives_words, put_gives_coefficients   the place after the integers, and the room, element by element
--   are_bytes, are_cells, are_words, are_coefficients   whether the room is what the contents say, and the place after it
-- And of no contract, for any text, contents and length, or any list:
--   put_bytes, put_cells, put_words, put_coefficients   the elements with the bits wanted, in the words of Rooms
--   compare_plain                                       what is compared where an element is its own bits
-- Assumes nothing.
use Rattle.std.proofs.Common.{◌≡◌, ℕ, List, [], ◌∷◌, length, map, refl, ap, ◌∙◌, of_z, to_z, w64}
use contract.Lifetimes.{Lfts}
use denote.Builtin.{u8, u16, u64, i64}
use denote.Param.Laws.{Laws}
use mir.Syntax.{Dict}
use Rattle.vectors.specs.Rooms.{wanted, byte_of, cell_of, byte_at, cell_at, word_at, coefficient_at, place_in, list_of, compared}
use Rattle.vectors.specs.declared.rooms.Contents.{Contents}
use Rattle.vectors.specs.declared.rooms.Compared.{Compared}
use Rattle.vectors.specs.contracts.rooms.U8Element.TheImpl as byte
use Rattle.vectors.specs.contracts.rooms.U16Element.TheImpl as cell
use Rattle.vectors.specs.contracts.rooms.U64Element.TheImpl as word
use Rattle.vectors.specs.contracts.rooms.I64Element.TheImpl as coefficient
use Rattle.vectors.proofs.rooms.put.Reads as put
use Rattle.vectors.proofs.rooms.compare.Reads as compare

map_same : (xs : List ℕ) → map (λ (x : ℕ). x) xs ≡ xs
map_same [] = refl
map_same (x ∷ xs) = ap (λ (ys : List ℕ). x ∷ ys) (map_same xs)

module _ (s : List ℕ) (c : Contents) (n : ℕ) where
  pub put_bytes : list_of n (λ (j : ℕ). byte_of (wanted s c j)) ≡ list_of n (byte_at s c)
  put_bytes = refl

  pub put_cells : list_of n (λ (j : ℕ). cell_of (wanted s c j)) ≡ list_of n (cell_at s c)
  put_cells = refl

  pub put_words : list_of n (λ (j : ℕ). wanted s c j) ≡ list_of n (word_at s c)
  put_words = refl

  pub put_coefficients : list_of n (λ (j : ℕ). to_z w64 (wanted s c j)) ≡ list_of n (coefficient_at s c)
  put_coefficients = refl

pub compare_plain : (s : List ℕ) (c : Contents) (xs : List ℕ) → compared s c (map (λ (x : ℕ). x) xs) ≡ compared s c xs
compare_plain s c xs = ap (compared s c) (map_same xs)

pub put_gives_bytes : (laws : Laws u8) (copy : _) (dict : Dict) (clone : _) (clone_dict : Dict) (κs : Lfts 3) (a : _) (r : ℕ) (s : _) → put.Post u8 laws copy byte.ghosts dict clone clone_dict κs a r s
    → (r ≡ place_in a.0.now a.1.0 (length a.1.1.0.now)) × (s.1.1.0.now ≡ list_of (length a.1.1.0.now) (byte_at a.0.now a.1.0))
put_gives_bytes laws copy dict clone clone_dict κs a r s p = (p.0, p.1)

pub put_gives_cells : (laws : Laws u16) (copy : _) (dict : Dict) (clone : _) (clone_dict : Dict) (κs : Lfts 3) (a : _) (r : ℕ) (s : _) → put.Post u16 laws copy cell.ghosts dict clone clone_dict κs a r s
    → (r ≡ place_in a.0.now a.1.0 (length a.1.1.0.now)) × (s.1.1.0.now ≡ list_of (length a.1.1.0.now) (cell_at a.0.now a.1.0))
put_gives_cells laws copy dict clone clone_dict κs a r s p = (p.0, p.1)

pub put_gives_words : (laws : Laws u64) (copy : _) (dict : Dict) (clone : _) (clone_dict : Dict) (κs : Lfts 3) (a : _) (r : ℕ) (s : _) → put.Post u64 laws copy word.ghosts dict clone clone_dict κs a r s
    → (r ≡ place_in a.0.now a.1.0 (length a.1.1.0.now)) × (s.1.1.0.now ≡ list_of (length a.1.1.0.now) (word_at a.0.now a.1.0))
put_gives_words laws copy dict clone clone_dict κs a r s p = (p.0, p.1)

pub put_gives_coefficients : (laws : Laws i64) (copy : _) (dict : Dict) (clone : _) (clone_dict : Dict) (κs : Lfts 3) (a : _) (r : ℕ) (s : _) → put.Post i64 laws copy coefficient.ghosts dict clone clone_dict κs a r s
    → (r ≡ place_in a.0.now a.1.0 (length a.1.1.0.now)) × (s.1.1.0.now ≡ list_of (length a.1.1.0.now) (coefficient_at a.0.now a.1.0))
put_gives_coefficients laws copy dict clone clone_dict κs a r s p = (p.0, p.1)

pub are_bytes : (laws : Laws u8) (copy : _) (dict : Dict) (clone : _) (clone_dict : Dict) (κs : Lfts 3) (a : _) (r : Compared) (s : _) → compare.Post u8 laws copy byte.ghosts dict clone clone_dict κs a r s
    → r ≡ compared a.0.now a.1.0 a.1.1.0.now
are_bytes laws copy dict clone clone_dict κs a r s p = p ∙ compare_plain a.0.now a.1.0 a.1.1.0.now

pub are_cells : (laws : Laws u16) (copy : _) (dict : Dict) (clone : _) (clone_dict : Dict) (κs : Lfts 3) (a : _) (r : Compared) (s : _) → compare.Post u16 laws copy cell.ghosts dict clone clone_dict κs a r s
    → r ≡ compared a.0.now a.1.0 a.1.1.0.now
are_cells laws copy dict clone clone_dict κs a r s p = p ∙ compare_plain a.0.now a.1.0 a.1.1.0.now

pub are_words : (laws : Laws u64) (copy : _) (dict : Dict) (clone : _) (clone_dict : Dict) (κs : Lfts 3) (a : _) (r : Compared) (s : _) → compare.Post u64 laws copy word.ghosts dict clone clone_dict κs a r s
    → r ≡ compared a.0.now a.1.0 a.1.1.0.now
are_words laws copy dict clone clone_dict κs a r s p = p ∙ compare_plain a.0.now a.1.0 a.1.1.0.now

pub are_coefficients : (laws : Laws i64) (copy : _) (dict : Dict) (clone : _) (clone_dict : Dict) (κs : Lfts 3) (a : _) (r : Compared) (s : _) → compare.Post i64 laws copy coefficient.ghosts dict clone clone_dict κs a r s
    → r ≡ compared a.0.now a.1.0 (map (of_z w64) a.1.1.0.now)
are_coefficients laws copy dict clone clone_dict κs a r s p = p
