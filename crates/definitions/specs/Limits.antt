-- The sizes and counts that document 01 allows, in one place.
use Rattle.std.specs.Prelude.{ℕ}

-- any text: bytes
abbrev pub max_text_length : ℕ
max_text_length = 16777216

-- a cohort: samples and sites
abbrev pub max_samples : ℕ
max_samples = 64

abbrev pub max_sites : ℕ
max_sites = 4096

-- a name of a sample or a contig: bytes
abbrev pub max_name_length : ℕ
max_name_length = 32

-- a site: alleles with REF, and letters of an allele
abbrev pub max_site_alleles : ℕ
max_site_alleles = 8

abbrev pub max_site_letters : ℕ
max_site_letters = 128

-- a record of a combined list, and alleles that are trimmed or subset: alleles with REF, and letters of an allele
abbrev pub max_alleles : ℕ
max_alleles = 16

abbrev pub max_letters : ℕ
max_letters = 255

-- a window along a contig, its length and its step: positions
abbrev pub max_window : ℕ
max_window = 1000000

-- the programs: bytes of a file and of the list, and places of scratch for breakpoints
abbrev pub program_bytes : ℕ
program_bytes = 65536

abbrev pub program_scratch : ℕ
program_scratch = 8192

-- and places for windows along a contig, whose lines then fit the list's bytes
abbrev pub program_windows : ℕ
program_windows = 2500
