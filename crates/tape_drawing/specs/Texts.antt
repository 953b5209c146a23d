-- The texts of a document that are always the same.
use Rattle.std.specs.Prelude.{ℕ, List, codes}

-- how what is drawn looks, behind the size of the page and as far as that of the type
unfoldable pub style_head : List ℕ
style_head = codes "text{font-family:'Times New Roman',Times,serif;font-size:13px;text-anchor:middle;fill:#1a1a1a}\npath{fill:none;stroke:#1a1a1a;stroke-width:6;stroke-linecap:round}\n.p{fill:#f6edd2;stroke:#cdbd91}\n.d{stroke:#9c9376;stroke-width:2;stroke-dasharray:0 18}\n.c,.n,.l,.g,.o,.e,.w,.h,.i{font-family:Helvetica,Arial,sans-serif}\n.c{font-size:8.5px;font-weight:bold;fill:#1256a8}\n.n,.w{font-size:8px;fill:#66696f}\n.l{font-size:15px;text-anchor:end}\n.g{font-size:12px;text-anchor:end;fill:#55585e}\n.o,.i{font-size:11px;text-anchor:start;fill:#55585e}\n.e{font-size:11px;font-weight:bold;text-anchor:end}\n.h{font-size:16px;font-weight:bold;text-anchor:start}\n.k{fill:#eef0f3;stroke:#8f959e}\n.m{fill:none;stroke:#d5d9df;stroke-width:.7}\n.b{fill:url(#band)}\n.s{fill:#dadde2;stroke:#c3c8cf;stroke-width:.7}\n.q{fill:#c9cdd3}\n.v{fill:#fadcdc;stroke:#c00000}\n.a{fill:#ffffff;stroke:#c00000;stroke-dasharray:3 3}\n.f{fill:none;stroke:#c00000;stroke-width:1.5}\n.u{font-weight:bold}\n.z{fill:#fdfcf8}\n.t{font-size:"

-- how what is drawn looks, behind the size of the type
unfoldable pub style_tail : List ℕ
style_tail = codes "px}\n.x{fill:#c00000}\n"

-- the element of a document, as far as its width
unfoldable pub svg_lead : List ℕ
svg_lead = codes "<svg xmlns='http://www.w3.org/2000/svg' version='1.1' width='"

-- behind the style of a document: what spacebands are filled with, and the ground
unfoldable pub svg_style_end : List ℕ
svg_style_end = codes "</style>\n<defs><pattern id='band' width='1' height='1' patternContentUnits='objectBoundingBox'><path d='M0 0H1V1H0z' style='fill:#e3eaf5;stroke:none'/><path d='M.36 0H.64L.8 1H.2z' style='fill:#c3d2ea;stroke:none'/></pattern></defs>\n<rect class='z' width='100%' height='100%'/>\n"

-- what the marks of functions stand for
unfoldable pub first_legend : List ℕ
first_legend = codes "SB spaceband | SH shift | UN unshift | EL elevate, which ends a line | RT return | UR upper rail, set bold | LR lower rail"

-- what the others stand for
unfoldable pub second_legend : List ℕ
second_legend = codes "QL QC QR quad left, center, right | TH EN EM thin, en, em space | IG ignored | at the left the lines of the text and the slugs of the galley"

-- what begins a page, as far as its title
unfoldable pub page_lead : List ℕ
page_lead = codes "<!DOCTYPE html>\n<html lang='en'>\n<head>\n<meta charset='utf-8'>\n<meta name='viewport' content='width=device-width, initial-scale=1'>\n<title>"

-- how a page looks round its drawings, and what begins its heading
unfoldable pub page_style_end : List ℕ
page_style_end = codes "@page{size:auto;margin:12mm}\n:root{color-scheme:only light;scroll-padding-top:6em}\nbody{max-width:1000px;margin:0 auto;padding:16px;background:#fdfcf8;color:#1a1a1a;font-family:Helvetica,Arial,sans-serif}\nh1{font-size:1.25em;overflow-wrap:anywhere}\np{font-size:.85em;line-height:1.5}\nmain{overflow-x:auto}\nmain>svg{display:block;width:100%;min-width:640px;break-inside:avoid;overflow:hidden}\n.y{position:absolute}\n</style>\n</head>\n<body>\n<h1>"

-- what the marks stand for, in a page
unfoldable pub page_legend : List ℕ
page_legend = codes "<p>SB spaceband | SH shift | UN unshift | EL elevate, which ends a line | RT return | UR upper rail, set bold | LR lower rail<br>\nQL QC QR quad left, center, right | TH EN EM thin, en, em space | IG ignored | at the left the lines of the text and the slugs of the galley</p>\n"

-- what begins the drawings of a page
unfoldable pub page_main : List ℕ
page_main = codes "<main>\n<svg class='y' width='0' height='0'>\n<defs><pattern id='band' width='1' height='1' patternContentUnits='objectBoundingBox'><path d='M0 0H1V1H0z' style='fill:#e3eaf5;stroke:none'/><path d='M.36 0H.64L.8 1H.2z' style='fill:#c3d2ea;stroke:none'/></pattern></defs>\n</svg>\n"
