-- Any two outcomes that a contract allows are equal, for every public call: the answer, what each lent slice holds afterwards, and the part that
-- is handed back. Each law stands in the call's own crate, over the contract as the source states it; here it has the name of the call, as
-- crate_module_function. (The library `vectors` serves the replay programs alone, and has its laws beside it.)
-- Assumes nothing.

-- monomials
pub use Rattle.monomials.proofs.Determined.{
  number_of_determined as monomials_refusal_number_of,
  mask_determined as monomials_divmask_mask,
  divides_consistent_with_determined as monomials_divmask_divides_consistent_with,
  total_degree_determined as monomials_monomial_total_degree,
  exponent_determined as monomials_monomial_exponent,
  power_determined as monomials_monomial_power,
  product_determined as monomials_monomial_product,
  quotient_determined as monomials_monomial_quotient,
  lcm_determined as monomials_monomial_lcm,
  gcd_determined as monomials_monomial_gcd,
  divides_determined as monomials_monomial_divides,
  is_coprime_determined as monomials_monomial_is_coprime,
  cmp_lex_determined as monomials_monomial_cmp_lex,
  cmp_degrevlex_determined as monomials_monomial_cmp_degrevlex,
}
-- numbers: words, two-word numbers, coefficient lists, the Hilbert function
pub use Rattle.numbers.proofs.DeterminedHilbert.{
  magnitude_determined as numbers_signed_magnitude,
  signed_add_determined as numbers_signed_wrapping_add,
  signed_sub_determined as numbers_signed_wrapping_sub,
  to_bits_determined as numbers_signed_to_bits,
  from_bits_determined as numbers_signed_from_bits,
  from_word_determined as numbers_wide_Wide_from_word,
  from_signed_determined as numbers_wide_Wide_from_signed,
  wrapping_add_determined as numbers_wide_Wide_wrapping_add,
  wrapping_neg_determined as numbers_wide_Wide_wrapping_neg,
  wrapping_sub_determined as numbers_wide_Wide_wrapping_sub,
  less_than_determined as numbers_wide_Wide_less_than,
  is_large_determined as numbers_wide_Wide_is_large,
  product_determined as numbers_wide_Wide_product,
  times_determined as numbers_wide_Wide_times,
  add_into_determined as numbers_wide_add_into,
  is_zero_determined as numbers_coefficients_is_zero,
  degree_determined as numbers_coefficients_degree,
  coeff_determined as numbers_coefficients_coeff,
  hf_at_determined as numbers_hf_at_hf_at,
}
-- numbers: the numerator and its update
pub use Rattle.numbers.proofs.DeterminedNumerator.{
  hilbert_numerator_determined as numbers_numerator_hilbert_numerator,
  add_generators_determined as numbers_update_add_generators,
}
-- numbers: the dimension
pub use Rattle.numbers.proofs.DeterminedDimension.{
  quotient_dimension_determined as numbers_dimension_quotient_dimension,
}
-- records
pub use Rattle.records.proofs.DeterminedRecords.{
  write_record_determined as records_ideal_write_record,
  check_place_determined as records_ideal_check_place,
  place_determined as records_ideal_place,
  copy_record_determined as records_ideal_copy_record,
  write_answer_determined as records_answer_write_answer,
  answer_record_determined as records_host_answer_record,
  purlthicket_dim_determined as records_host_purlthicket_dim,
}
-- the calls for C and Rust
pub use Rattle.bridge.proofs.Determined.{
  pt_degree as bridge_monomial_pt_degree,
  pt_exponent as bridge_monomial_pt_exponent,
  pt_power as bridge_monomial_pt_power,
  pt_product as bridge_monomial_pt_product,
  pt_quotient as bridge_monomial_pt_quotient,
  pt_lcm as bridge_monomial_pt_lcm,
  pt_gcd as bridge_monomial_pt_gcd,
  pt_divides as bridge_monomial_pt_divides,
  pt_coprime as bridge_monomial_pt_coprime,
  pt_lex as bridge_monomial_pt_lex,
  pt_degrevlex as bridge_monomial_pt_degrevlex,
  pt_mask as bridge_mask_pt_mask,
  pt_is_zero as bridge_coefficients_pt_is_zero,
  pt_coeff_degree as bridge_coefficients_pt_coeff_degree,
  pt_coeff as bridge_coefficients_pt_coeff,
  pt_hf_at as bridge_hilbert_pt_hf_at,
  pt_numerator as bridge_numerator_pt_numerator,
  pt_update as bridge_numerator_pt_update,
  pt_dimension as bridge_dimension_pt_dimension,
  pt_write_record as bridge_ideal_pt_write_record,
  pt_check_place as bridge_ideal_pt_check_place,
  pt_place as bridge_ideal_pt_place,
  pt_copy_record as bridge_ideal_pt_copy_record,
}
