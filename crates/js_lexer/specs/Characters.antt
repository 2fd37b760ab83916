-- Characters of one byte, by name.
use Rattle.std.specs.Prelude.{ℕ}

abbrev pub backspace : ℕ
backspace = 8

abbrev pub tab : ℕ
tab = 9

abbrev pub line_feed : ℕ
line_feed = 10

abbrev pub vertical_tab : ℕ
vertical_tab = 11

abbrev pub form_feed : ℕ
form_feed = 12

abbrev pub carriage_return : ℕ
carriage_return = 13

abbrev pub space : ℕ
space = 32

abbrev pub double_quote : ℕ
double_quote = 34

abbrev pub dollar : ℕ
dollar = 36

abbrev pub single_quote : ℕ
single_quote = 39

abbrev pub dot : ℕ
dot = 46

abbrev pub digit_0 : ℕ
digit_0 = 48

abbrev pub digit_9 : ℕ
digit_9 = 57

abbrev pub capital_a : ℕ
capital_a = 65

abbrev pub capital_b : ℕ
capital_b = 66

abbrev pub capital_e : ℕ
capital_e = 69

abbrev pub capital_f : ℕ
capital_f = 70

abbrev pub capital_o : ℕ
capital_o = 79

abbrev pub capital_x : ℕ
capital_x = 88

abbrev pub capital_z : ℕ
capital_z = 90

abbrev pub backslash : ℕ
backslash = 92

abbrev pub underscore : ℕ
underscore = 95

abbrev pub backtick : ℕ
backtick = 96

abbrev pub small_a : ℕ
small_a = 97

abbrev pub small_b : ℕ
small_b = 98

abbrev pub small_e : ℕ
small_e = 101

abbrev pub small_f : ℕ
small_f = 102

abbrev pub small_n : ℕ
small_n = 110

abbrev pub small_o : ℕ
small_o = 111

abbrev pub small_r : ℕ
small_r = 114

abbrev pub small_t : ℕ
small_t = 116

abbrev pub small_u : ℕ
small_u = 117

abbrev pub small_v : ℕ
small_v = 118

abbrev pub small_x : ℕ
small_x = 120

abbrev pub small_z : ℕ
small_z = 122

abbrev pub open_brace : ℕ
open_brace = 123

abbrev pub close_brace : ℕ
close_brace = 125
